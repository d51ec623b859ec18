-- `tests_calls::make_call` meets its contract: an arm a kind.
use borrow.Author.Rules.{rules}
use mathlib.Core.Path.{refl}
use Rattle.tests_calls.specs.Calls.{OutcomeMade, CallMade}
use Rattle.tests_calls.proofs.make_call.Goals as goal

pub returns-in-Whole : goal.returns-in-Whole
unfolding CallMade OutcomeMade
returns-in-Whole c = rw (c.in-Whole.is, c.beside.ensures) (record { kept = refl; made = c.call_whole.ensures })

pub returns-in-Open : goal.returns-in-Open
unfolding CallMade
returns-in-Open c = rw c.in-Open.is (refl, record { result = c.«open».result; says = c.«open».ensures; is = c.admission_called.ensures })

pub returns-in-Feed : goal.returns-in-Feed
unfolding CallMade
returns-in-Feed c = rw c.in-Feed.is c.call_feed.ensures

pub returns-in-SetMethod : goal.returns-in-SetMethod
unfolding CallMade
returns-in-SetMethod c = rw c.in-SetMethod.is (refl, record { result = c.set_method.result; says = c.set_method.ensures; is = c.admission_called-in-SetMethod.ensures })

pub returns-in-Save : goal.returns-in-Save
unfolding CallMade
returns-in-Save c = rw c.in-Save.is (refl, c.call_save.ensures)

pub returns-in-Load : goal.returns-in-Load
unfolding CallMade
returns-in-Load c = rw c.in-Load.is (refl, record { result = c.load.result; says = c.load.ensures; is = c.admission_called-in-Load.ensures })

pub returns-in-Hand : goal.returns-in-Hand
unfolding CallMade
returns-in-Hand c = rw (c.in-Hand.is, c.beside-in-Hand.ensures) (refl, rw (c.number_outcome.ensures, c.search_of.ensures, c.read_fields.ensures))

pub returns-in-Report : goal.returns-in-Report
unfolding CallMade OutcomeMade
returns-in-Report c = rw (c.in-Report.is, c.beside-in-Report.ensures) (record { kept = refl; made = (refl, c.call_report.ensures) })

pub returns-in-FieldBits : goal.returns-in-FieldBits
unfolding CallMade OutcomeMade
returns-in-FieldBits c = rw (c.in-FieldBits.is, c.beside-in-FieldBits.ensures) (record { kept = refl; made = (refl, rw (c.number_outcome-in-FieldBits.ensures, c.width_of.ensures) refl) })

pub returns-in-Exact : goal.returns-in-Exact
unfolding CallMade OutcomeMade
returns-in-Exact c = rw (c.in-Exact.is, c.beside-in-Exact.ensures) (record { kept = refl; made = (refl, rw (c.number_outcome-in-Exact.ensures, c.exact.ensures) refl) })

pub returns-in-Several : goal.returns-in-Several
unfolding CallMade OutcomeMade
returns-in-Several c = rw (c.in-Several.is, c.beside-in-Several.ensures) (record { kept = refl; made = c.call_several.ensures })

pub returns-in-Marked : goal.returns-in-Marked
unfolding CallMade OutcomeMade
returns-in-Marked c = rw (c.in-Marked.is, c.beside-in-Marked.ensures) (record { kept = refl; made = c.call_marked.ensures })

pub returns-in-First : goal.returns-in-First
unfolding CallMade OutcomeMade
returns-in-First c = rw (c.in-First.is, c.beside-in-First.ensures) (record { kept = refl; made = (refl, search rules) })

pub returns-in-Resent : goal.returns-in-Resent
unfolding CallMade OutcomeMade
returns-in-Resent c = rw (c.in-Resent.is, c.beside-in-Resent.ensures) (record { kept = refl; made = (refl, search rules) })

pub returns-in-Unknown : goal.returns-in-Unknown
unfolding CallMade OutcomeMade
returns-in-Unknown c = rw (c.in-Unknown.is, c.beside-in-Unknown.ensures) (record { kept = refl; made = (refl, rw (c.number_outcome-in-Unknown.ensures, c.exact-in-Unknown.ensures) refl) })
