-- Document 02, [1]: "export it in cell order". Assumes nothing.
use Rattle.std.specs.Prelude.{◌≡◌, cond, Result, Ok, Err, List, [], ◌∷◌, ◌++◌, ℕ, zero, suc, ◌+◌, ◌/◌, ◌%◌, ◌≤◌, ◌<◌, eqb, ltb, length, get_or, drop}
use Rattle.std.proofs.Math.Option.{Option, none, some}
use Rattle.tables.specs.declared.refusal.Refusal.{Refusal}
use Rattle.tables.specs.declared.refusal.Refusal.TheVariants as refusal
use Rattle.tables.specs.Refusals.{Reply, refused, answered}
use Rattle.tables.specs.Limits.{most_scans, most_settings, forbidden}
use Rattle.tables.specs.Tables.{cells, cell}
use Rattle.tables.specs.Legal.{AllLegal, cell_illegal, no_weights}
use Rattle.checks.specs.Checks.{when, found, first_from, first_refusal, or_answer}
use Rattle.checks.specs.Planning.{scans_out, settings_out, lengths_out}
use Rattle.exports.specs.declared.place.Place.{Place}

-- "no quotes or leading zeros": the decimal digits of a number. (k is at least as many as there are.)
abbrev pub decimal_of : ℕ → ℕ → List ℕ
decimal_of zero x = []
decimal_of (suc k) x = cond (ltb x 10) ((48 + x) ∷ []) (decimal_of k (x / 10) ++ ((48 + x % 10) ∷ []))

unfoldable pub decimal : ℕ → List ℕ
decimal x = decimal_of (suc x) x

-- "The previous field is empty for scan 0 and only there."
unfoldable pub previous_field : Place → List ℕ
previous_field p = cond (eqb p.scan 0) [] (decimal p.previous)

-- "scan, previous setting, setting, rate, distortion"
abbrev pub line_text : Place → (rate distortion : ℕ) → List ℕ
line_text p rate distortion =
    decimal p.scan ++ (44 ∷ previous_field p ++ (44 ∷ decimal p.setting ++ (44 ∷ decimal rate ++ (44 ∷ decimal distortion))))

-- "CRLF after each line"
unfoldable pub export_line : Place → (rate distortion : ℕ) → List ℕ
export_line p rate distortion = line_text p rate distortion ++ (13 ∷ 10 ∷ [])

-- "forbidden cells are not exported"
abbrev pub cell_line : Place → (rate distortion : ℕ) → List ℕ
cell_line p rate distortion = cond (eqb rate forbidden) [] (export_line p rate distortion)

-- "in cell order": the place of the next cell. Scan 0 has one row, every later scan one for each setting before it.
unfoldable pub next_place : ℕ → Place → Place
next_place Q p =
    cond (ltb (suc p.setting) Q) (record { scan = p.scan; previous = p.previous; setting = suc p.setting })
    (cond (eqb p.scan 0) (record { scan = 1; previous = 0; setting = 0 })
    (cond (ltb (suc p.previous) Q) (record { scan = p.scan; previous = suc p.previous; setting = 0 })
    (record { scan = suc p.scan; previous = 0; setting = 0 })))

abbrev pub first_place : Place
first_place = record { scan = 0; previous = 0; setting = 0 }

-- the place of cell c: c places on from the first
abbrev pub place_at : ℕ → ℕ → Place
place_at Q zero = first_place
place_at Q (suc c) = next_place Q (place_at Q c)

-- p is the place of cell c; at scan 0 there is no setting before, and 0 stands in its place
pub record PlaceOf (Q c : ℕ) (p : Place) : Type 0 where
  pub previous : p.previous < Q
  pub setting : p.setting < Q
  pub is : cell Q p.scan p.previous p.setting ≡ c
  pub none_before : p.scan ≡ 0 → p.previous ≡ 0

-- the lines of n cells from cell c on
abbrev pub export_from : ℕ → (rates distortions : List ℕ) → (n c : ℕ) → List ℕ
export_from Q rates distortions zero c = []
export_from Q rates distortions (suc n) c =
    cell_line (place_at Q c) (get_or rates c 0) (get_or distortions c 0) ++ export_from Q rates distortions n (suc c)

unfoldable pub export_text : (N Q : ℕ) (rates distortions : List ℕ) → List ℕ
export_text N Q rates distortions = export_from Q rates distortions (cells N Q) 0

-- 1, 2, 5 and 7
abbrev pub early_checks : (N Q : ℕ) (rates distortions : List ℕ) → List (Option Refusal)
early_checks N Q rates distortions =
    when (scans_out N) refusal.Scans ∷ when (settings_out Q) refusal.Settings ∷ when (lengths_out N Q rates distortions) refusal.Lengths
    ∷ found refusal.Cell (first_from (cell_illegal no_weights rates distortions) 0 (length rates)) ∷ []

-- tables that passed 1, 2, 5 and 7
pub record Exportable (N Q : ℕ) (rates distortions : List ℕ) : Type 0 where
  pub some_scans : 1 ≤ N
  pub scans : N ≤ most_scans
  pub some_settings : 1 ≤ Q
  pub settings : Q ≤ most_settings
  pub rates_long : length rates ≡ cells N Q
  pub distortions_long : length distortions ≡ cells N Q
  pub legal : AllLegal no_weights rates distortions

-- "On export 1, 2, 5, 7, then 6 for a text buffer too short."
abbrev pub export_checks : (N Q : ℕ) (rates distortions : List ℕ) (room : ℕ) → List (Option Refusal)
export_checks N Q rates distortions room =
    early_checks N Q rates distortions ++ (when (ltb room (length (export_text N Q rates distortions))) refusal.Buffer ∷ [])

unfoldable pub export_refusal : (N Q : ℕ) (rates distortions : List ℕ) (room : ℕ) → Option Refusal
export_refusal N Q rates distortions room = first_refusal (export_checks N Q rates distortions room)

-- "Export returns its length."
unfoldable pub export_answered : (N Q : ℕ) (rates distortions : List ℕ) (room : ℕ) → Reply
export_answered N Q rates distortions room =
    or_answer (export_refusal N Q rates distortions room) (length (export_text N Q rates distortions) ∷ [])

-- "Tables and text stay the same on any refusal"; "extra .. bytes never change"
abbrev pub text_after : Option Refusal → (N Q : ℕ) (rates distortions text : List ℕ) → List ℕ
text_after none N Q rates distortions text = export_text N Q rates distortions ++ drop (length (export_text N Q rates distortions)) text
text_after (some r) N Q rates distortions text = text

-- all that an export leaves: what it says, and the text
pub record Exported : Type 0 where
  pub reply : Reply
  pub text : List ℕ

abbrev pub export_of : (N Q : ℕ) (rates distortions text : List ℕ) → Exported
export_of N Q rates distortions text = record {
  reply = export_answered N Q rates distortions (length text);
  text = text_after (export_refusal N Q rates distortions (length text)) N Q rates distortions text;
}

-- the number and the value of the answer
abbrev pub export_reply : Result ℕ Refusal → Reply
export_reply (Ok n) = answered (n ∷ [])
export_reply (Err r) = refused r
