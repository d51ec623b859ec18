-- `program_report::answer_request` meets its contract: a whole search, and then its refusal's line or what it found.
use mathlib.Core.Path.{refl}
use Rattle.program_report.proofs.Founds.{refused-fits, refused-text, found_inside, found-text, found-fits}
use Rattle.program_report.proofs.answer_request.Goals as goal

pub write_refusal-requires : goal.write_refusal-requires
write_refusal-requires c =
    refused-fits c.in-Err.refusal c.number_of.ensures c.requires.1

pub write_found-requires : goal.write_found-requires
write_found-requires c =
    let w = c.in-Ok.ensures in
    (found_inside w c.requires.0 refl, found-fits w c.requires.0 refl c.requires.1)

pub returns-in-Err : goal.returns-in-Err
returns-in-Err c =
    let w = c.in-Err.ensures in
    rw (refused-text w c.requires.0 refl, ← c.number_of.ensures) c.write_refusal.ensures

pub returns-in-Ok : goal.returns-in-Ok
returns-in-Ok c =
    let w = c.in-Ok.ensures in
    rw (found-text w c.requires.0 refl) c.write_found.ensures
