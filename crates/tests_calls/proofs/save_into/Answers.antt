-- `tests_calls::save_into` meets its contract.
use Rattle.tests_outcomes.proofs.Digesting.{digest-append}
use Rattle.tests_calls.specs.Searches.{search_bytes}
use Rattle.tests_calls.proofs.save_into.Goals as goal

pub returns : goal.returns
returns c =
    record {
      result = c.save-given.result;
      says = c.save-given.ensures;
      is = rw (c.saved.ensures, c.digest_search.ensures, c.bytes.ensures, c.new.ensures, digest-append 0 c.save-given.new.buffer (search_bytes c.save-given.result.search));
    }
