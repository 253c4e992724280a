-- Document 01, "Room". Assumes nothing.
use Rattle.std.specs.Prelude.{List, [], ◌∷◌, ℕ, ◌*◌, Result, Ok, Err}
use Rattle.std.proofs.Math.Option.{Option}
use Rattle.tables.specs.declared.refusal.Refusal.{Refusal}
use Rattle.tables.specs.declared.refusal.Refusal.TheVariants as refusal
use Rattle.room.specs.declared.Room.{Room}
use Rattle.tables.specs.Refusals.{Reply, refused, answered}
use Rattle.tables.specs.Tables.{cells, scratch_need}
use Rattle.checks.specs.Checks.{when, first_refusal, or_answer}
use Rattle.checks.specs.Planning.{channels_out, scans_out, settings_out}

-- "Room checks 10, 1, 2."
abbrev pub room_checks : ℕ → ℕ → ℕ → List (Option Refusal)
room_checks C N Q = when (channels_out C) refusal.Channels ∷ when (scans_out N) refusal.Scans ∷ when (settings_out Q) refusal.Settings ∷ []

-- "For C channels (1 to 1,048,576), N and Q, the answer is the cells of one table, bytes of one table for all channels (4 × C × cells), and
-- scratch bytes N × Q for one call."
unfoldable pub room_of : ℕ → ℕ → ℕ → Reply
room_of C N Q = or_answer (first_refusal (room_checks C N Q)) (cells N Q ∷ 4 * C * cells N Q ∷ scratch_need N Q ∷ [])

-- the number and the values of the call's answer
abbrev pub room_reply : Result Room Refusal → Reply
room_reply (Ok g) = answered (g.cells ∷ g.bytes ∷ g.scratch ∷ [])
room_reply (Err r) = refused r
