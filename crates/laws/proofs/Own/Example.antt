-- Demand 3 is no statement about constants: two calls whose texts differ in another query, and whose budgets and rooms differ,
-- one at rest and one stopped by its budget; the second query's section is the same four lines in both.
use mathlib.Core.Path.{◌≡◌, refl}
use mathlib.Core.List.{[], ◌++◌}
use lib.Dec.{lit<}
use lib.ListN.{replicate}
use Rattle.meaning.specs.Bytes.{Bytes, bytes}
use Rattle.meaning.specs.Terms.{Job}
use Rattle.meaning.specs.Items.{Reading, job, refused, reading}
use Rattle.meaning.specs.Call.{Given, ran, Outcome, call, everything}
use Rattle.laws.proofs.Report.{begins_q, before_first, cut}
use Rattle.laws.proofs.Call.{Ran}
use Rattle.laws.proofs.Own.Steps.{query_at}
use Rattle.laws.proofs.Own.Sections.{Alike}
use Rattle.laws.proofs.Own.Shown.{section_shown, left_by}

unfoldable pub rules : Bytes
rules =
    bytes "tag([H|T],[hit(H?)|R?]) :- tag(T?,R). tag([],[]). end([]). same(X,X?). two(1,1). w(1,2).\n"

unfoldable pub rests : Given
rests =
    record {
      text = rules ++ bytes "?- tag(A?,Z), end(A). ?- tag([1|B?],Y).";
      budget = 10000;
      room = record { pairs = 1024; compounds = 1024; goals = 128 };
      scratch = [];
      buffer = replicate 200 46;
    }

unfoldable pub stopped : Given
stopped =
    record {
      text = rules ++ bytes "?- two(A,A?), same(7,C). ?- tag([1|B?],Y). ?- end(D), tag([2|D?],E).";
      budget = 6;
      room = record { pairs = 30; compounds = 40; goals = 9 };
      scratch = [];
      buffer = replicate 400 46;
    }

-- The section of `?- tag([1|B?],Y).` in the second place, after two tries. The waiting goal was made by the first clause at the query's first try:
-- the machine's third step, since other queries' steps lie before it.
unfoldable pub shared : Bytes
shared = bytes "query 2 tries 2 active 0 waiting 1 failed 0\nB = _1\nY = [hit(1)|_2?]\nwaiting tag(_1?,_2) from 1 at 1\n"

pub example_at_rest : ◌≡◌ {A = Outcome} (call (λ room. 0) rests)
    (record {
      answer = ran 175;
      buffer = bytes "run rest steps 5\nquery 1 tries 3 active 0 waiting 0 failed 0\nA = []\nZ = []\n" ++ shared ++ replicate 25 46;
      scratch = [];
    })
unfolding rules rests shared everything
example_at_rest = refl

pub example_stopped : ◌≡◌ {A = Outcome} (call (λ room. 0) stopped)
    (record {
      answer = ran 306;
      buffer =
          bytes "run budget steps 6\nquery 1 tries 2 active 0 waiting 1 failed 0\nA = _1\nC = 7\nwaiting two(_1,_1?) from 0 at 0\n"
          ++ shared
          ++ bytes "query 3 tries 2 active 1 waiting 0 failed 0\nD = []\nE = [hit(2)|_1?]\nactive tag([],_1) from 1 at 2\n"
          ++ replicate 94 46;
      scratch = [];
    })
unfolding rules stopped shared everything
example_stopped = refl

-- By the bytes alone, both calls show that section.
pub example_shows_the_section : (section_shown 1 (left_by (λ room. 0) rests 175) ≡ shared) × (section_shown 1 (left_by (λ room. 0) stopped 306) ≡ shared)
unfolding rules rests stopped shared section_shown left_by cut before_first begins_q everything
example_shows_the_section = (refl, refl)

-- The two calls are such as demand 3 speaks of: both ran, with the same clauses and the same second query, and no other query in common.
unfoldable pub job_of : Reading → Job
job_of (job j) = j
job_of (refused r) = record { clauses = []; queries = [] }

pub example_ran_at_rest : Ran (λ room. 0) rests 175 (job_of (reading rests.text))
unfolding rules rests job_of everything
example_ran_at_rest = record { answers = refl; reads = refl }

pub example_ran_stopped : Ran (λ room. 0) stopped 306 (job_of (reading stopped.text))
unfolding rules stopped job_of everything
example_ran_stopped = record { answers = refl; reads = refl }

pub example_alike : Alike 1 (job_of (reading rests.text)) (job_of (reading stopped.text))
unfolding rules rests stopped job_of query_at everything
example_alike = record { place₁ = lit< tt; place₂ = lit< tt; clauses = refl; query = refl }
