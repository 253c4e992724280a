-- The room answer, by the first check that fails; and an answer is settled by its number and values. Assumes nothing.
use mathlib.Core.Path.{◌≡◌, refl, sym, ap}
use mathlib.Core.Option.{none, some}
use mathlib.Core.List.{[], ◌∷◌}
use Prim.Native.Nat.{ℕ, ◌*◌}
use lib.ListN.{get_or}
use Rattle.std.specs.Prelude.{Result, Ok, Err}
use Rattle.room.specs.declared.Room.{Room}
use Rattle.tables.specs.Refusals.{Reply, refused, answered}
use Rattle.tables.specs.Tables.{cells, scratch_need}
use Rattle.tables.specs.declared.refusal.Refusal.{Refusal}
use Rattle.tables.specs.Limits.{most_channels, most_scans, most_settings}
use Rattle.checks.specs.Checks.{first_refusal}
use Rattle.checks.proofs.RangeLaws.{in_range}
use Rattle.checks.proofs.CheckLaws.{all_pass, none_when}
use Prim.Native.Nat.{◌≤◌}
use Rattle.room.specs.Room.{room_checks, room_of, room_reply}
use Rattle.tables.proofs.RefusalLaws.{refused_unique, answered_or_refused}

-- a refusal of the checks is the call's
pub refuses_room : (C N Q : ℕ) {r : Refusal} → first_refusal (room_checks C N Q) ≡ some r → refused r ≡ room_of C N Q
unfolding room_of
refuses_room C N Q e = rw e refl

-- and where they pass, it gives the room
pub gives_room : (C N Q : ℕ) → first_refusal (room_checks C N Q) ≡ none →
    answered (cells N Q ∷ 4 * C * cells N Q ∷ scratch_need N Q ∷ []) ≡ room_of C N Q
unfolding room_of
gives_room C N Q e = rw e refl

-- numbers that passed the checks are in their ranges
pub room_ranges : (C N Q : ℕ) → first_refusal (room_checks C N Q) ≡ none →
    (C ≤ most_channels) × (((1 ≤ N) × (N ≤ most_scans)) × ((1 ≤ Q) × (Q ≤ most_settings)))
room_ranges C N Q e =
    let p = all_pass (room_checks C N Q) e in (
      (in_range {most = most_channels} {x = C} (none_when _ _ p.0)).1,
      (in_range {most = most_scans} {x = N} (none_when _ _ p.1.0), in_range {most = most_settings} {x = Q} (none_when _ _ p.1.1.0)),
    )

-- The promise settles the answer: two answers with one number and the same values are the same.
pub room_unique : (a b : Result Room Refusal) → room_reply a ≡ room_reply b → a ≡ b
room_unique (Ok g) (Ok h) e =
    ap (λ (x : Reply). Ok (record { cells = get_or x.values 0 0; bytes = get_or x.values 1 0; scratch = get_or x.values 2 0 })) e
room_unique (Ok g) (Err r) e = absurd (answered_or_refused r e)
room_unique (Err r) (Ok g) e = absurd (answered_or_refused r (sym e))
room_unique (Err r) (Err r') e = ap Err (refused_unique e)
