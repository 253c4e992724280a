-- What stands between export and import: what is exported is imported again, and what is imported is legal. Assumes nothing.
use Rattle.std.specs.Prelude.{◌≡◌, List, [], ◌++◌, ℕ, ◌<◌, length, get_or, take, drop}
use Rattle.std.proofs.Math.Option.{none}
use Rattle.tables.specs.Limits.{forbidden}
use Rattle.tables.specs.Tables.{cells}
use Rattle.tables.specs.Legal.{AllLegal, no_weights}
use Rattle.lines.specs.Text.{lines}
use Rattle.imports.specs.Import.{first_fault, filled, table_from, rate_of, distortion_of}
use Rattle.exports.specs.Export.{export_text}
use Rattle.lists.specs.Shown.{zeroed}

-- an export has no fault, and imported it gives the rates and the distortions that it shows, in front of whatever stood behind the cells
pub record ImportedAgain (N Q : ℕ) (rates distortions : List ℕ) : Type 0 where
  pub faultless : first_fault N Q 1 [] (lines (export_text N Q rates distortions)) ≡ none
  pub rates_again : (R : List ℕ) →
      table_from rate_of Q (filled (cells N Q) forbidden R) (lines (export_text N Q rates distortions)) ≡ rates ++ drop (cells N Q) R
  pub distortions_again : (D : List ℕ) →
      table_from distortion_of Q (filled (cells N Q) 0 D) (lines (export_text N Q rates distortions)) ≡ zeroed rates distortions ++ drop (cells N Q) D

-- the cells that an import of a text without a fault writes
abbrev pub imported_rates : (N Q : ℕ) (text R : List ℕ) → List ℕ
imported_rates N Q text R = take (cells N Q) (table_from rate_of Q (filled (cells N Q) forbidden R) (lines text))

abbrev pub imported_distortions : (N Q : ℕ) (text D : List ℕ) → List ℕ
imported_distortions N Q text D = take (cells N Q) (table_from distortion_of Q (filled (cells N Q) 0 D) (lines text))

-- they are a table's, and legal; beside a forbidden rate the distortion is 0; and what stood behind them stays
pub record ImportedLegal (N Q : ℕ) (text R D : List ℕ) : Type 0 where
  pub rates_long : length (imported_rates N Q text R) ≡ cells N Q
  pub distortions_long : length (imported_distortions N Q text D) ≡ cells N Q
  pub legal : AllLegal no_weights (imported_rates N Q text R) (imported_distortions N Q text D)
  pub zero_beside : (c : ℕ) → c < cells N Q → get_or (imported_rates N Q text R) c 0 ≡ forbidden → get_or (imported_distortions N Q text D) c 0 ≡ 0
  pub rates_rest : table_from rate_of Q (filled (cells N Q) forbidden R) (lines text) ≡ imported_rates N Q text R ++ drop (cells N Q) R
  pub distortions_rest : table_from distortion_of Q (filled (cells N Q) 0 D) (lines text) ≡ imported_distortions N Q text D ++ drop (cells N Q) D
