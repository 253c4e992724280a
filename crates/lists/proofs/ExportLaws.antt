-- An export, imported again. Assumes nothing.
use mathlib.Core.Path.{◌≡◌, refl, sym, ap, ◌∙◌}
use mathlib.Core.Logic.{◌≢◌, ⊎_elim}
use mathlib.Core.Bool.{Bool, true, false, cond, ◌||◌}
use mathlib.Core.Option.{Option, none, some}
use mathlib.Core.List.{List, [], ◌∷◌, ◌++◌}
use Prim.Native.Nat.{ℕ, zero, suc, ◌+◌, ◌≤◌, ◌<◌}
use native.Mathlib.Decide.{ℕ_discrete}
use native.Mathlib.Omega.{arith}
use lib.Dec.{eqb, ltb, leb}
use lib.ListN.{length, get_or, set, drop, replicate, length-append, drop_of_length-le}
use lib.Seq.{drop-cons, append_snoc, set_at, get_or-drop, ext_get_or}
use borrow.Author.Tests.{eq-eqb, ne_eqb, lt-leb, le-ltb}
use Rattle.tables.specs.declared.refusal.Refusal.TheVariants as refusal
use Rattle.tables.specs.Limits.{most_cell, forbidden}
use Rattle.tables.specs.Tables.{cells, cell}
use Rattle.checks.specs.Checks.{when, or_else, first_refusal}
use Rattle.checks.proofs.CheckLaws.{else_none}
use Rattle.lines.specs.declared.says.Entry.{Entry}
use Rattle.lines.specs.Text.{lines}
use Rattle.imports.specs.Import.{cell_of, out_of_range, member, fault, seen_with, first_fault, filled, with_said, rate_of, distortion_of, table_from}
use Rattle.exports.specs.declared.place.Place.{Place}
use Rattle.exports.specs.Export.{line_text, export_line, cell_line, place_at, export_from, export_text, Exportable, PlaceOf}
use Rattle.exports.proofs.PlaceLaws.{in_cell_order, scan_below}
use Rattle.lists.specs.Shown.{zeroed, said_at}
use Rattle.lists.specs.Again.{ImportedAgain}
use Rattle.lists.proofs.LineOfLaws.{Sized, lines_export, line_says}

-- ---- the distortions that are shown

pub length_zeroed : (rates distortions : List ℕ) → length (zeroed rates distortions) ≡ length rates
length_zeroed [] distortions = refl
length_zeroed (r ∷ rates) distortions = ap suc (length_zeroed rates (drop 1 distortions))

pub get_or_zeroed : (rates distortions : List ℕ) (c : ℕ) → c < length rates →
    get_or (zeroed rates distortions) c 0 ≡ cond (eqb (get_or rates c 0) forbidden) 0 (get_or distortions c 0)
get_or_zeroed [] distortions c h = absurd (omega arith)
get_or_zeroed (r ∷ rates) distortions zero h = refl
get_or_zeroed (r ∷ rates) distortions (suc c) h =
    let e : 1 + c ≡ suc c = omega arith in
    get_or_zeroed rates (drop 1 distortions) c (omega arith)
    ∙ ap (λ (x : ℕ). cond (eqb (get_or rates c 0) forbidden) 0 x) (get_or-drop 1 distortions c 0 ∙ ap (λ (k : ℕ). get_or distortions k 0) e)

-- distortions that are 0 beside every forbidden rate are shown as they are
pub zeroed_same : (rates distortions : List ℕ) → length distortions ≡ length rates →
    ((c : ℕ) → c < length rates → get_or rates c 0 ≡ forbidden → get_or distortions c 0 ≡ 0) → zeroed rates distortions ≡ distortions
zeroed_same rates distortions e z =
    let l = length_zeroed rates distortions in
    ext_get_or 0 (zeroed rates distortions) distortions (l ∙ sym e)
    (λ c h. let g : c < length rates = omega (arith, h, l) in get_or_zeroed rates distortions c g ∙ of c g (ℕ_discrete (get_or rates c 0) forbidden))
  where
    of : (c : ℕ) → c < length rates → Dec (get_or rates c 0 ≡ forbidden) → cond (eqb (get_or rates c 0) forbidden) 0 (get_or distortions c 0) ≡ get_or distortions c 0
    of c g (yes y) = ap (λ (b : Bool). cond b 0 (get_or distortions c 0)) (eq-eqb (get_or rates c 0) forbidden y) ∙ sym (z c g y)
    of c g (no y) = ap (λ (b : Bool). cond b 0 (get_or distortions c 0)) (ne_eqb (get_or rates c 0) forbidden y)

-- ---- the lines of an export

no_lines : lines [] ≡ []
unfolding lines
no_lines = refl

lines_forbidden : (p : Place) (r d : ℕ) (rest : List ℕ) → r ≡ forbidden → lines (cell_line p r d ++ rest) ≡ lines rest
lines_forbidden p r d rest e = ap (λ (b : Bool). lines (cond b [] (export_line p r d) ++ rest)) (eq-eqb r forbidden e)

lines_shown : (p : Place) (r d : ℕ) (rest : List ℕ) → r ≢ forbidden → Sized p r d → lines (cell_line p r d ++ rest) ≡ line_text p r d ∷ lines rest
lines_shown p r d rest e s = ap (λ (b : Bool). lines (cond b [] (export_line p r d) ++ rest)) (ne_eqb r forbidden e) ∙ lines_export s rest

no_or : (a b : Bool) → a ≡ false → b ≡ false → (a || b) ≡ false
no_or true b e f = e
no_or false b e f = f

-- the cells that were named stand before c
abbrev Earlier : ℕ → List ℕ → Type 0
Earlier c seen = (j : ℕ) → c ≤ j → member j seen ≡ false

earlier_more : (c : ℕ) (seen : List ℕ) → Earlier c seen → Earlier (suc c) (c ∷ seen)
earlier_more c seen e j h = no_or (eqb j c) (member j seen) (ne_eqb j c (λ z. omega (arith, z, h))) (e j (omega arith))

no_fault_of : (N Q k : ℕ) (seen : List ℕ) (e : Entry) → out_of_range N Q e ≡ false → member (cell_of Q e) seen ≡ false → fault N Q k seen (some e) ≡ none
no_fault_of N Q k seen e p q =
    ap (λ (b : Bool). first_refusal (when b (refusal.OutOfRange k) ∷ when (member (cell_of Q e) seen) (refusal.Twice k) ∷ [])) p
    ∙ ap (λ (b : Bool). first_refusal (when false (refusal.OutOfRange k) ∷ when b (refusal.Twice k) ∷ [])) q

-- a line that is exported
record Shown (N Q c : ℕ) (p : Place) (r d : ℕ) : Type 0 where
  sized : Sized p r d
  is : cell_of Q (said_at p r d) ≡ c
  in_range : out_of_range N Q (said_at p r d) ≡ false

same_before : {Q c : ℕ} {p : Place} → PlaceOf Q c p → cond (eqb p.scan 0) 0 p.previous ≡ p.previous
same_before {p = p} o = of (ℕ_discrete p.scan 0)
  where
    of : Dec (p.scan ≡ 0) → cond (eqb p.scan 0) 0 p.previous ≡ p.previous
    of (yes z) = ap (λ (b : Bool). cond b 0 p.previous) (eq-eqb p.scan 0 z) ∙ sym (o.none_before z)
    of (no z) = ap (λ (b : Bool). cond b 0 p.previous) (ne_eqb p.scan 0 z)

range_of : (N Q : ℕ) (e : Entry) → e.scan < N → e.previous < Q → e.setting < Q → e.rate ≤ most_cell → e.distortion ≤ most_cell → out_of_range N Q e ≡ false
unfolding out_of_range
range_of N Q e a b c d f =
    no_or (leb N e.scan) _ (lt-leb _ _ a) (no_or (leb Q e.previous) _ (lt-leb _ _ b) (no_or (leb Q e.setting) _ (lt-leb _ _ c)
    (no_or (ltb most_cell e.rate) (ltb most_cell e.distortion) (le-ltb _ _ d) (le-ltb _ _ f))))

module _ {N Q : ℕ} {rates distortions : List ℕ} (x : Exportable N Q rates distortions) where
  shown : {c : ℕ} {p : Place} → PlaceOf Q c p → c < cells N Q → get_or rates c 0 ≢ forbidden → Shown N Q c p (get_or rates c 0) (get_or distortions c 0)
  shown {c} {p} o h n =
      let l = x.legal c (omega (arith, h, x.rates_long)) in
      let r : get_or rates c 0 ≤ most_cell = ⊎_elim (λ a. a) (λ e. absurd (n e)) l.0 in
      let d : get_or distortions c 0 ≤ most_cell = ⊎_elim (λ a. a.0) (λ e. absurd (n e)) l.1 in
      let b = same_before o in
      let i = scan_below x.some_scans o h in
      record {
        sized = record {
          scan = omega (arith, i, x.scans);
          previous = omega (arith, o.previous, x.settings);
          setting = omega (arith, o.setting, x.settings);
          rate_small = omega (arith, r);
          distortion_small = omega (arith, d);
        };
        is = ap (λ (k : ℕ). cell Q p.scan k p.setting) b ∙ o.is;
        in_range = range_of N Q (said_at p (get_or rates c 0) (get_or distortions c 0)) i (omega (arith, b, o.previous)) o.setting r d;
      }

  -- the place of cell c
  abbrev here : ℕ → Place
  here c = place_at Q c

  of_cell : (c : ℕ) → PlaceOf Q c (here c)
  of_cell c = in_cell_order Q x.some_settings c

  -- what stands behind cell c
  abbrev behind : (n c : ℕ) → List ℕ
  behind n c = export_from Q rates distortions n (suc c)

  -- no line of n cells from cell c on has a fault
  none_faulty : (n c k : ℕ) (seen : List ℕ) → c + n ≡ cells N Q → Earlier c seen →
      first_fault N Q k seen (lines (export_from Q rates distortions n c)) ≡ none
  none_faulty zero c k seen e early = ap (first_fault N Q k seen) no_lines
  none_faulty (suc n) c k seen e early =
      of (ℕ_discrete (get_or rates c 0) forbidden)
      (λ k' seen' early'. none_faulty n (suc c) k' seen' (omega arith) early')
    where
      of : Dec (get_or rates c 0 ≡ forbidden) → ((k' : ℕ) (seen' : List ℕ) → Earlier (suc c) seen' → first_fault N Q k' seen' (lines (behind n c)) ≡ none) →
          first_fault N Q k seen (lines (cell_line (here c) (get_or rates c 0) (get_or distortions c 0) ++ (behind n c))) ≡ none
      of (yes z) later =
          ap (first_fault N Q k seen) (lines_forbidden (here c) (get_or rates c 0) (get_or distortions c 0) (behind n c) z) ∙ later k seen (λ j h. early j (omega arith))
      of (no z) later =
          let s = shown (of_cell c) (omega arith) z in
          let entry = said_at (here c) (get_or rates c 0) (get_or distortions c 0) in
          let m : member (cell_of Q entry) seen ≡ false = early (cell_of Q entry) (omega (arith, s.is)) in
          let f : first_fault N Q (suc k) (cell_of Q entry ∷ seen) (lines (behind n c)) ≡ none =
          ap (λ (j : ℕ). first_fault N Q (suc k) (j ∷ seen) (lines (behind n c))) s.is ∙ later (suc k) (c ∷ seen) (earlier_more c seen early) in
          ap (first_fault N Q k seen) (lines_shown (here c) (get_or rates c 0) (get_or distortions c 0) (behind n c) z s.sized)
          ∙ ap (λ (y : Option Entry). or_else (fault N Q k seen y) (first_fault N Q (suc k) (seen_with Q y seen) (lines (behind n c)))) (line_says s.sized)
          ∙ else_none (fault N Q k seen (some entry)) (first_fault N Q (suc k) (cell_of Q entry ∷ seen) (lines (behind n c)))
          (no_fault_of N Q k seen entry s.in_range m) f

  -- what the lines of n cells from cell c on write: a table's own cells, and where there is no line what stood there before
  module _ (f : Entry → ℕ) (fill : ℕ) (X : List ℕ) (long : length X ≡ cells N Q)
      (not_shown : (c : ℕ) → c < cells N Q → get_or rates c 0 ≡ forbidden → get_or X c 0 ≡ fill)
      (is_shown : (c : ℕ) (p : Place) → c < cells N Q → get_or rates c 0 ≢ forbidden → f (said_at p (get_or rates c 0) (get_or distortions c 0)) ≡ get_or X c 0) where
    written : (n c : ℕ) (A R : List ℕ) → c + n ≡ cells N Q → length A ≡ c →
        table_from f Q (A ++ (replicate n fill ++ R)) (lines (export_from Q rates distortions n c)) ≡ A ++ (drop c X ++ R)
    written zero c A R e a =
        ap (table_from f Q (A ++ R)) no_lines ∙ ap (λ (l : List ℕ). A ++ (l ++ R)) (sym (drop_of_length-le X {i = c} (omega (arith, long))))
    written (suc n) c A R e a =
        of (ℕ_discrete (get_or rates c 0) forbidden)
        ∙ ap (λ (t : List ℕ). table_from f Q t (lines (behind n c))) (sym (append_snoc A (get_or X c 0) (replicate n fill ++ R)))
        ∙ written n (suc c) (A ++ (get_or X c 0 ∷ [])) R (omega arith)
        (omega (arith, a, length-append A (get_or X c 0 ∷ [])))
        ∙ append_snoc A (get_or X c 0) (drop (suc c) X ++ R)
        ∙ ap (λ (l : List ℕ). A ++ (l ++ R)) (sym (drop-cons X c 0 (omega (arith, long))))
      where
        of : Dec (get_or rates c 0 ≡ forbidden) →
            table_from f Q (A ++ fill ∷ (replicate n fill ++ R)) (lines (cell_line (here c) (get_or rates c 0) (get_or distortions c 0) ++ (behind n c))) ≡ table_from f Q (A ++ get_or X c 0 ∷ (replicate n fill ++ R)) (lines (behind n c))
        of (yes z) =
            ap (table_from f Q (A ++ fill ∷ (replicate n fill ++ R))) (lines_forbidden (here c) (get_or rates c 0) (get_or distortions c 0) (behind n c) z)
            ∙ ap (λ (v : ℕ). table_from f Q (A ++ v ∷ (replicate n fill ++ R)) (lines (behind n c))) (sym (not_shown c (omega arith) z))
        of (no z) =
            let s = shown (of_cell c) (omega arith) z in
            let entry = said_at (here c) (get_or rates c 0) (get_or distortions c 0) in
            let put : set (A ++ fill ∷ (replicate n fill ++ R)) (cell_of Q entry) (f entry) ≡ A ++ get_or X c 0 ∷ (replicate n fill ++ R) =
            ap (λ (j : ℕ). set (A ++ fill ∷ (replicate n fill ++ R)) j (f entry)) s.is ∙ set_at A fill (replicate n fill ++ R) (f entry) c a
            ∙ ap (λ (v : ℕ). A ++ v ∷ (replicate n fill ++ R)) (is_shown c (here c) (omega arith) z) in
            ap (table_from f Q (A ++ fill ∷ (replicate n fill ++ R))) (lines_shown (here c) (get_or rates c 0) (get_or distortions c 0) (behind n c) z s.sized)
            ∙ ap (λ (y : Option Entry). table_from f Q (with_said f Q (A ++ fill ∷ (replicate n fill ++ R)) y) (lines (behind n c))) (line_says s.sized)
            ∙ ap (λ (t : List ℕ). table_from f Q t (lines (behind n c))) put

    all_written : (R : List ℕ) → table_from f Q (filled (cells N Q) fill R) (lines (export_text N Q rates distortions)) ≡ X ++ drop (cells N Q) R
    unfolding export_text
    all_written R =
        written (cells N Q) 0 [] (drop (cells N Q) R) (omega arith) refl

  export_faultless : first_fault N Q 1 [] (lines (export_text N Q rates distortions)) ≡ none
  unfolding export_text
  export_faultless = none_faulty (cells N Q) 0 1 [] (omega arith) (λ j h. refl)

  -- what is exported is imported again
  pub export_lines : ImportedAgain N Q rates distortions
  export_lines = record {
    faultless = export_faultless;
    rates_again = λ R. all_written rate_of forbidden rates x.rates_long (λ c h z. z) (λ c p h z. refl) R;
    distortions_again = λ D. all_written distortion_of 0 (zeroed rates distortions) (length_zeroed rates distortions ∙ x.rates_long)
        (λ c h z. get_or_zeroed rates distortions c (omega (arith, h, x.rates_long))
        ∙ ap (λ (b : Bool). cond b 0 (get_or distortions c 0)) (eq-eqb (get_or rates c 0) forbidden z))
        (λ c p h z. sym (get_or_zeroed rates distortions c (omega (arith, h, x.rates_long))
        ∙ ap (λ (b : Bool). cond b 0 (get_or distortions c 0)) (ne_eqb (get_or rates c 0) forbidden z))) D;
  }
