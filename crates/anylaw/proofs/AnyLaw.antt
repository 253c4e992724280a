-- Demands 2 and 3, once over any law. Nothing that `any_law` rests on knows a law's number. Assumes nothing.
use mathlib.Core.Bool.{Bool}
use mathlib.Core.Path.{◌≡◌}
use mathlib.Core.List.{List}
use Prim.Native.Nat.{ℕ}
use lib.ListN.{length}
use Rattle.tables.specs.Law.{Law, Tests, law_of, allows}
use Rattle.tables.proofs.LawLaws.{allows_law}
use Rattle.checks.specs.Planning.{Asked, asking_under}
use Rattle.trellis.proofs.MadeLaws.{pass_made}
use Rattle.promise.specs.Promise.{CeilingPromise, MultiplierPromise, MinmaxPromise, AveragePromise}
use Rattle.promise.specs.Says.{SomeAnswer}
use Rattle.promise.proofs.Exist.{ceiling_some, multiplier_some, minmax_some, average_some}
use Rattle.promise.proofs.Unique.{ceiling_settled, multiplier_settled, minmax_settled, average_settled}
use Rattle.promise.proofs.Exactly.{ceiling_exactly, multiplier_exactly, minmax_exactly, average_exactly}
use Rattle.promise.proofs.Demands.{demand_answered_under}
use Rattle.planfile.proofs.Back.{written_keeps}
use Rattle.planfile.proofs.Accepted.{accepted_keeps, accepted_file_under, accepted_known_under, accepted_held_under, accepted_plan_under}
use Rattle.filing.proofs.CanBeWritten.{reads_back_under, average_written_under, minmax_written_under, average_read_back_under, minmax_read_back_under}
use Rattle.anylaw.specs.Passes.{PassesHold}
use Rattle.anylaw.specs.Demands.{OneAnswer, AnswersRight, DemandsHold}

-- an answer of which a promise is true, where there are no two
one : {Answer : Type 0} {promise : Answer → List ℕ → List ℕ → Type 0} (k : SomeAnswer promise) →
    ((r : Answer) (p s : List ℕ) → promise r p s → (k.answer ≡ r) × (k.plan ≡ p) × (k.scratch ≡ s)) → OneAnswer promise
one k only = record { some = k; only = only }

module _ (a : Asked) {test : ℕ → ℕ → Bool} (tests : Tests test a.law) (plan scratch : List ℕ) where
  answers_right : AnswersRight a plan scratch
  answers_right = record {
    ceiling = λ X. let k = ceiling_some a tests plan scratch X in
        one {promise = CeilingPromise a X plan scratch} k (λ r p s h. ceiling_settled {a = a} k.answer r k.promised h);
    multiplier = λ n d. let k = multiplier_some a tests plan scratch n d in
        one {promise = MultiplierPromise a n d plan scratch} k (λ r p s h. multiplier_settled {a = a} n d k.answer r k.promised h);
    minmax = λ B. let k = minmax_some a tests plan scratch B in
        one {promise = MinmaxPromise a B plan scratch} k (λ r p s h. minmax_settled {a = a} k.answer r k.promised h);
    average = λ B. let k = average_some a tests plan scratch B in
        one {promise = AveragePromise a B plan scratch} k (λ r p s h. average_settled {a = a} k.answer r k.promised h);
    ceiling_says = λ X r h. ceiling_exactly X r h;
    multiplier_says = λ n d r h. multiplier_exactly n d r h;
    minmax_says = λ B r h. minmax_exactly B r h;
    average_says = λ B r h. average_exactly B r h;
  }

-- What is made of steps under a law is a pass under it.
pub any_pass : (law : Law) → PassesHold law
any_pass law = record { passes = λ fit rule light made. pass_made fit light made }

-- Demands 2 and 3 hold under every law that has a test, and a pass does what they rest on.
pub any_law : {law : Law} {test : ℕ → ℕ → Bool} → Tests test law → PassesHold law × DemandsHold law test
any_law {law} {test} tests = (
  any_pass law,
  record {
    answers = λ lawless N Q rates distortions weights plan scratch.
        answers_right (asking_under lawless law N Q rates distortions weights (length plan) (length scratch)) tests plan scratch;
    proves = λ lawless N Q rates distortions weights plan scratch B m h.
        demand_answered_under {a = asking_under lawless law N Q rates distortions weights (length plan) (length scratch)} tests m h;
    writes = λ lawless f settings room w. written_keeps lawless test f settings room w tests;
    reads_back = λ lawless f settings room w b h. reads_back_under lawless test f settings room w b h;
    accepts = λ lawless file room bytes e. record {
      keeps = accepted_keeps lawless test file room e tests;
      known = accepted_known_under lawless test file room e;
      held = accepted_held_under lawless test file room e;
      same = accepted_file_under lawless test file room e bytes;
      written = accepted_plan_under lawless test file room e;
    };
    files_average = λ lawless N Q rates distortions weights plan scratch B number m h b l.
        let a = asking_under lawless law N Q rates distortions weights (length plan) (length scratch) in record {
          written = λ room. average_written_under {a = a} tests number room m h;
          reads_back = average_read_back_under {a = a} tests number m h b l;
        };
    files_minmax = λ lawless N Q rates distortions weights plan scratch B number m h b l.
        let a = asking_under lawless law N Q rates distortions weights (length plan) (length scratch) in record {
          written = λ room. minmax_written_under {a = a} tests number room m h;
          reads_back = minmax_read_back_under {a = a} tests number m h b l;
        };
  },
)

-- So they hold under every law by its number: `asking` and the files of the calls are those of `law_of` and `allows`.
pub numbered_law : (law : ℕ) → PassesHold (law_of law) × DemandsHold (law_of law) (allows law)
numbered_law law = any_law (allows_law law)
