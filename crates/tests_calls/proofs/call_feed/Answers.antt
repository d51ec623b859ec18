-- `tests_calls::call_feed` meets its contract.
use Rattle.tests_outcomes.proofs.Digesting.{digest-append}
use Rattle.tests_outcomes.specs.Digests.{list_bytes}
use Rattle.tests_calls.specs.Searches.{search_bytes}
use Rattle.tests_calls.proofs.call_feed.Goals as goal

pub returns : goal.returns
returns c =
    record {
      result = c.feed-fed.result;
      says = c.feed-fed.ensures;
      is = rw (c.answered.ensures, c.digest_search.ensures, c.list.ensures, c.new.ensures, digest-append 0 (list_bytes c.feed-fed.new.list) (search_bytes c.feed-fed.result.search));
    }
