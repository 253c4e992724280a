-- The answer buffer is one more check behind those of a call, and what the call then gives back can be told. Assumes nothing.
use mathlib.Core.Path.{◌≡◌, refl, ap, ◌∙◌}
use mathlib.Core.Bool.{Bool, true, false, cond, ◌&&◌}
use mathlib.Core.Option.{Option, none, some}
use mathlib.Core.List.{List, [], ◌∷◌}
use Prim.Native.Nat.{ℕ, ◌*◌, ◌≤◌}
use native.Mathlib.Omega.{arith}
use lib.Dec.{eqb, ltb}
use borrow.Author.Tests.{ltb-false, eqb-false, ne_eqb}
use Rattle.tables.specs.declared.refusal.Refusal.{Refusal}
use Rattle.tables.specs.declared.refusal.Refusal.TheVariants as refusal
use Rattle.tables.specs.Refusals.{Reply, refused, number_of}
use Rattle.tables.specs.Limits.{most_scans}
use Rattle.tables.specs.Tables.{cells, scratch_need}
use Rattle.tables.proofs.CellLaws.{cells_small, scan_inside}
use Rattle.tables.proofs.RefusalLaws.{never_zero}
use Rattle.checks.specs.Checks.{zero_or_over, first_refusal, or_else, or_answer, when}
use Rattle.checks.specs.Planning.{channels_out, scans_out, settings_out, lengths_out, plain_checks}
use Rattle.checks.proofs.GiveLaws.{Gives, given, gives_when, gives_first}
use Rattle.room.specs.Room.{room_checks, room_of}
use Rattle.fits.specs.Fits.{Question, fits_refusal, FitsPromise, early, seven, none_fits, one_fits}
use Rattle.fits.proofs.ReadLaws.{ready}
use Rattle.telling.specs.Parts.{Tellable}
use Rattle.lastly.specs.Lastly.{asked_last, room_told}
use Rattle.lastly.proofs.CarryLaws.{Little, refusal_tellable, or_tellable}

-- one more test behind the checks of a call
pub more_check : (o : Option Refusal) (t : Bool) (r : Refusal) (v : List ℕ) →
    or_answer (or_else o (when t r)) v ≡ cond (eqb (or_answer o v).number 0 && t) (refused r) (or_answer o v)
more_check none true r v = refl
more_check none false r v = refl
more_check (some s) t r v = rw (ne_eqb (number_of s) 0 (never_zero s)) refl

-- the answer buffer is such a test
pub last_told : (need n : ℕ) (o : Option Refusal) {p : Option Refusal} (v : List ℕ) → p ≡ or_else o (when (ltb n need) refusal.Buffer) →
    or_answer p v ≡ asked_last need n (or_answer o v)
unfolding asked_last
last_told need n o v e = ap (λ x. or_answer x v) e ∙ more_check o (ltb n need) refusal.Buffer v

-- what can be told where the answer has its need can be told
pub last_tellable : (need n : ℕ) (reply : Reply) → Tellable reply need → Tellable (asked_last need n reply) n
unfolding asked_last
last_tellable need n reply t = of (eqb reply.number 0) (ltb n need) (eqb-false reply.number 0) (ltb-false n need)
  where
    of : (z s : Bool) → (z ≡ false → reply.number ≡ 0 → ⊥) → (s ≡ false → need ≤ n) → Tellable (cond (z && s) (refused refusal.Buffer) reply) n
    of true true f g = refusal_tellable refusal.Buffer refl (omega arith)
    of true false f g = record { holds = λ e. let h = t.holds e in omega (arith, h, g refl); small = t.small }
    of false s f g = record { holds = λ e. absurd (f refl e); small = t.small }

room_light : (C N Q : ℕ) → Gives Little (first_refusal (room_checks C N Q))
room_light C N Q = gives_first Little (room_checks C N Q) (
  gives_when Little (channels_out C) refusal.Channels (omega arith),
  (gives_when Little (scans_out N) refusal.Scans (omega arith), (gives_when Little (settings_out Q) refusal.Settings (omega arith), tt)),
)

pub room_tellable : (C N Q n : ℕ) → Tellable (room_told C N Q n) n
unfolding room_of
room_tellable C N Q n =
    last_tellable 24 n (room_of C N Q) (or_tellable (first_refusal (room_checks C N Q)) (cells N Q ∷ 4 * C * cells N Q ∷ scratch_need N Q ∷ []) 24 (room_light C N Q) (λ e. omega arith))

-- a cell's number is below the number of cells
fits_light : (a : Question) → Gives Little (fits_refusal a)
unfolding fits_refusal
fits_light a = gives_first Little (plain_checks a.N a.Q a.lawless a.rates a.distortions) (
  gives_when Little (zero_or_over most_scans a.N) refusal.Scans (omega arith),
  (
    gives_when Little (settings_out a.Q) refusal.Settings (omega arith),
    (
      gives_when Little a.lawless refusal.StepLaw (omega arith),
      (tt, (gives_when Little (lengths_out a.N a.Q a.rates a.distortions) refusal.Lengths (omega arith), tt)),
    ),
  ),
)

pub fits_tellable : (n : ℕ) (a : Question) {reply : Reply} → FitsPromise a reply → Tellable (asked_last 8 n reply) n
fits_tellable n a {reply} h = last_tellable 8 n reply (of h)
  where
    of : {reply : Reply} → FitsPromise a reply → Tellable reply 8
    of (early {r} e) = refusal_tellable r refl (given Little (fits_light a) e)
    of (seven {c} s) =
        let w = scan_inside a.N a.Q s.scan s.read.inside in
        let r = ready a s.passed in
        refusal_tellable (refusal.Cell c) refl (omega (arith, s.lowest.inside, w.1, cells_small {N = a.N} {Q = a.Q} r.scans r.settings))
    of (none_fits s) = or_tellable none (0 ∷ []) 8 tt (λ e. omega arith)
    of (one_fits s) = or_tellable none (1 ∷ []) 8 tt (λ e. omega arith)
