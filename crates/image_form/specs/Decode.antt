-- What any bytes say, read as an image, and when load gives number 9 for their form: document 01, "The saved image" and "When a call says no", and
-- document 02, T-06.
use Rattle.std.specs.Prelude.{Bool, not, ◌&&◌, ◌||◌, List, [], ◌∷◌, ℕ, zero, suc, ◌+◌, ◌-◌, ◌*◌, eqb, ltb, length, get_or, take, drop}
use Rattle.image_form.specs.Image.{Parts, parts_with}

-- The number that bytes write, low byte first
unfoldable pub from_low_first : List ℕ → ℕ
from_low_first [] = 0
from_low_first (b ∷ bytes) = b + 256 * from_low_first bytes

-- The kind that the i-th entry names, i from 1 to 4: that entry takes the bytes 3 · i − 2 to 3 · i
unfoldable pub kind_at : ℕ → List ℕ → ℕ
kind_at i image = get_or image (3 * i - 2) 0

-- The length that the entry of a kind says
unfoldable pub length_of : ℕ → List ℕ → ℕ
length_of kind image = from_low_first (take 2 (drop (3 * kind - 1) image))

-- Where the body of a kind ends, and the next kind's starts; the first starts where the contents end, after 13 bytes
unfoldable pub end_of : ℕ → List ℕ → ℕ
end_of zero image = 13
end_of (suc kind) image = end_of kind image + length_of (suc kind) image

-- The body of a kind
unfoldable pub body_of : ℕ → List ℕ → List ℕ
body_of kind image = take (length_of kind image) (drop (end_of (kind - 1) image) image)

-- The entries are of the kinds 1, 2, 3 and 4, in this order
unfoldable pub kinds_right : List ℕ → Bool
kinds_right image = eqb (kind_at 1 image) 1 && eqb (kind_at 2 image) 2 && eqb (kind_at 3 image) 3 && eqb (kind_at 4 image) 4

-- The form is bad, which load refuses with 9: no room for the first byte and four entries, another first byte than 04, kinds other than 1, 2, 3, 4
-- in this order, a length other than 2 for kind 2 or than 4 for kind 3, or bodies that do not end where the image does
unfoldable pub bad_form : List ℕ → Bool
bad_form image =
    ltb (length image) 13
    || (not (eqb (get_or image 0 0) 4)
    || (not (kinds_right image)
    || (not (eqb (length_of 2 image) 2)
    || (not (eqb (length_of 3 image) 4)
    || not (eqb (length image) (end_of 4 image))))))

-- The parts that an image holds
abbrev pub parts_of : List ℕ → Parts
parts_of image =
    parts_with (body_of 1 image) (get_or (body_of 2 image) 0 0) (get_or (body_of 2 image) 1 0) (from_low_first (body_of 3 image)) (body_of 4 image)
