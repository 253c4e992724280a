-- What a refusal carries is below 2 ^ 32, and what some checks come out as can be told. Assumes nothing.
use mathlib.Core.Path.{◌≡◌, refl}
use mathlib.Core.Option.{Option, none, some}
use mathlib.Core.List.{List}
use Prim.Native.Nat.{ℕ, ◌*◌, ◌≤◌, ◌<◌, ◌^◌}
use lib.ListN.{length}
use Rattle.tables.specs.declared.refusal.Refusal.{Refusal}
use Rattle.tables.specs.Refusals.{Reply, refused, carried_by}
use Rattle.tables.proofs.RefusalLaws.{never_zero}
use Rattle.checks.specs.Checks.{or_answer}
use Rattle.checks.proofs.GiveLaws.{Gives}
use Rattle.telling.specs.Parts.{Tellable}

-- a refusal carries less than 2 ^ 32
abbrev pub Little : Refusal → Type 0
Little r = carried_by r < 2 ^ 32

pub refusal_tellable : {reply : Reply} {n : ℕ} (r : Refusal) → reply ≡ refused r → carried_by r < 2 ^ 32 → Tellable reply n
refusal_tellable r e h = rw e (record { holds = λ z. absurd (never_zero r z); small = λ z. h })

pub or_tellable : (o : Option Refusal) (v : List ℕ) (n : ℕ) → Gives Little o → (o ≡ none → 8 * length v ≤ n) → Tellable (or_answer o v) n
or_tellable none v n l h = record { holds = λ e. h refl; small = λ ne. absurd (ne refl) }
or_tellable (some r) v n l h = refusal_tellable r refl l
