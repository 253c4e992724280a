-- The room question, the export and the question whether something fits, on the C surface: of none do the documents place the answer buffer
-- among the checks, and there it is asked for behind all of them. Assumes nothing.
use Rattle.std.specs.Prelude.{◌≡◌, cond, ◌&&◌, List, [], ◌∷◌, ◌++◌, ℕ, Result, eqb, ltb}
use Rattle.std.proofs.Math.Option.{Option}
use Rattle.tables.specs.declared.refusal.Refusal.{Refusal}
use Rattle.tables.specs.declared.refusal.Refusal.TheVariants as refusal
use Rattle.tables.specs.Refusals.{Reply, refused}
use Rattle.room.specs.Room.{room_of}
use Rattle.checks.specs.Checks.{when, first_refusal}
use Rattle.exports.specs.Export.{export_checks}
use Rattle.fits.specs.Fits.{FitsAnswer, Question, FitsPromise, fits_reply}
use Rattle.telling.specs.Parts.{answer_reply}

-- what a call gives back, where its answer needs so many bytes: 6 in the place of an answer that has no room
unfoldable pub asked_last : (need answer : ℕ) → Reply → Reply
asked_last need answer reply = cond (eqb reply.number 0 && ltb answer need) (refused refusal.Buffer) reply

-- the room question
abbrev pub room_told : (C N Q answer : ℕ) → Reply
room_told C N Q answer = asked_last 24 answer (room_of C N Q)

-- whether something fits
abbrev pub fits_told : (answer : ℕ) → FitsAnswer → Reply
fits_told answer r = asked_last 8 answer (fits_reply r)

-- The export is refused as its checks say: "1, 2, 5, 7, then 6". The answer buffer is part of 6.
unfoldable pub export_told : (N Q : ℕ) (rates distortions : List ℕ) (room answer : ℕ) → Option Refusal
export_told N Q rates distortions room answer = first_refusal (export_checks N Q rates distortions room ++ (when (ltb answer 8) refusal.Buffer ∷ []))

-- an answer of the call that keeps its promise, as it is told
pub record FitsTold (a : Question) (answer : ℕ) (said : Result (List ℕ) Refusal) : Type 0 where
  pub given : FitsAnswer
  pub kept : FitsPromise a (fits_reply given)
  pub told : answer_reply said ≡ fits_told answer given
