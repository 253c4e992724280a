-- Every average and every minmax plan that is given can be written, and what is written reads back, under any law that has a test.
-- Assumes nothing.
use Rattle.std.specs.Prelude.{Ok}
use mathlib.Core.Path.{◌≡◌, refl, ap, ◌∙◌}
use mathlib.Core.Bool.{Bool, false}
use mathlib.Core.Option.{Option, none}
use mathlib.Core.List.{List, [], ◌∷◌, ◌++◌}
use Prim.Native.Nat.{ℕ, suc, ◌^◌, ◌≤◌, ◌<◌}
use native.Mathlib.Nat.{le_refl}
use native.Mathlib.Omega.{arith}
use lib.Dec.{ltb}
use lib.ListN.{length, get_or, drop, length-append, get_or-append}
use borrow.Author.Tests.{le-ltb}
use Rattle.criteria.proofs.Ceilings.{minmax_fits}
use Rattle.tables.specs.declared.refusal.Refusal.{Refusal}
use Rattle.tables.specs.declared.refusal.Refusal.TheVariants as refusal
use Rattle.tables.specs.Limits.{most_scans, most_settings, most_term, most_total, most_cell}
use Rattle.tables.specs.Refusals.{Reply}
use Rattle.rules.proofs.FieldLaws.{RulesHold, rules_pass}
use Rattle.tables.specs.Tables.{distortion_at, series}
use Rattle.tables.specs.Law.{Tests}
use Rattle.checks.specs.Planning.{Asked, Sound, asking, table_of, problem_of, scans_out, settings_out}
use Rattle.checks.specs.Checks.{when}
use Rattle.tables.proofs.RefusalLaws.{answered_or_refused}
use Rattle.tables.proofs.SeriesLaws.{kept_below}
use Rattle.tables.proofs.Bounds.{average_in_limits}
use Rattle.tables.proofs.OneLaws.{total_ones}
use Rattle.tables.proofs.LawLaws.{tested?, allows_law}
use Rattle.checks.specs.Fit.{Fit}
use Rattle.checks.proofs.FitLaws.{fit_legal}
use Rattle.promise.specs.declared.AveragePlan.{AveragePlan}
use Rattle.promise.specs.declared.MinmaxPlan.{MinmaxPlan}
use Rattle.promise.specs.Promise.{unsound, no_sequence, none_within, planned, IsAveragePlan, IsMinmaxPlan, AveragePromise, MinmaxPromise}
use Rattle.checks.proofs.PlanningLaws.{sound_fit, sound_law}
use Rattle.seek.proofs.SeekLaws.{sums_small, peak_fits}
use Rattle.rules.specs.declared.Fields.{Fields}
use Rattle.blocks.specs.File.{file_length}
use Rattle.entries.specs.Entries.{entry_broken, KeepsLaw}
use Rattle.entries.proofs.EntryLaws.{keeps_law}
use Rattle.planfile.specs.Writing.{no_faults, write_refusal_under, write_refusal}
use Rattle.checks.proofs.CheckLaws.{else_nothing, none_first}
use Rattle.blocks.specs.Letters.{qpl2}
use Rattle.blocks.proofs.LetterLaws.{qpl2_known}
use Rattle.blocks.proofs.HeaderLaws.{held_in_qpl2}
use Rattle.planfile.proofs.Back.{version_back, settings_back_under, fields_back_under, read_back_under, settings_back, fields_back, read_back}
use Rattle.filing.specs.Filing.{mark_of, average_fields, minmax_fields, ReadsBackUnder, ReadsBack}
use Rattle.checks.proofs.RangeLaws.{passes_range}
use Rattle.filing.proofs.MarkLaws.{mark_zero, mark_kept}
use Rattle.filing.proofs.KeptLaws.{n_kept, d_kept, no_n_kept, no_d_kept, rate_kept, peak_kept, floor_at_most, largest_at_most, steps_kept}

-- where every rule is kept, the writer refuses for want of room alone
only_room : (lawless : Bool) (test : ℕ → ℕ → Bool) (f : Fields) (settings : List ℕ) (room : ℕ) → RulesHold lawless no_faults f →
    f.scans ≤ length settings → ((j : ℕ) → j < f.scans → entry_broken f.scans f.settings test (λ j. get_or settings j 0) j ≡ false) →
    write_refusal_under lawless test f settings room ≡ when (ltb room (file_length f.scans)) refusal.Buffer
unfolding write_refusal_under
only_room lawless test f settings room k h g =
    rw (
      rules_pass lawless no_faults f k,
      le-ltb (length settings) f.scans h,
      none_first f.scans (entry_broken f.scans f.settings test (λ j. get_or settings j 0)) 0 (λ i l b. g i (omega arith)),
    )
    (else_nothing (when (ltb room (file_length f.scans)) refusal.Buffer))

module _ {a : Asked} (o : Sound none a) where
  -- what a call that passed the checks has
  fit : Fit a.N a.Q a.rates a.distortions a.weights a.scratch
  fit = sound_fit o

  -- N is in its range
  scans_kept : scans_out a.N ≡ false
  scans_kept = passes_range {most = most_scans} {x = a.N} fit.some_scans fit.scans

  -- and Q
  count_kept : settings_out a.Q ≡ false
  count_kept = passes_range {most = most_settings} {x = a.Q} fit.some_settings fit.settings

module _ {a : Asked} (o : Sound none a) (s : List ℕ) (ok : (problem_of a).allowed s) where
  -- the settings are below Q and keep the law, whatever stands after them
  settings_keep : (rest : List ℕ) → KeepsLaw a.law a.N a.Q (λ j. get_or (s ++ rest) j 0)
  settings_keep rest = record {
    below = λ j h. let g : j < length s = omega (arith, ok.0) in
        rw (get_or-append s rest 0 j g) (kept_below (series (table_of a)) 0 0 s ok.1 j g);
    follows = λ j h. let g : suc j < length s = omega (arith, ok.0) in
        rw (get_or-append s rest 0 j (omega arith), get_or-append s rest 0 (suc j) g) (steps_kept (table_of a) 0 0 s ok.1 j g);
  }

  -- there are N settings
  settings_enough : (rest : List ℕ) → a.N ≤ length (s ++ rest)
  settings_enough rest = omega (arith, length-append s rest, ok.0)

  -- the rate of the sequence is within the limit
  rate_limit : (problem_of a).rate s ≤ most_total
  rate_limit = (sums_small a.law (fit o) s ok).1

  -- and so is its distortion
  distortion_limit : (problem_of a).distortion s ≤ most_total
  distortion_limit = (sums_small a.law (fit o) s ok).0

  -- and its peak
  peak_limit : (problem_of a).peak s ≤ most_cell
  peak_limit = peak_fits a.law (fit o) s ok

  -- where every weight is 1, the peak is at most the distortion
  peak_below : mark_of a.weights ≡ 0 → (problem_of a).peak s ≤ (problem_of a).distortion s
  peak_below e =
      omega (
        arith,
        largest_at_most (distortion_at (table_of a)) 0 0 s,
        total_ones (table_of a) (mark_zero a.weights e) 0 0 s (omega (arith, ok.0, (fit o).weights_long)),
      )

module _ {a : Asked} {test : ℕ → ℕ → Bool} (tests : Tests test a.law) (o : Sound none a) {B : ℕ} {s v : List ℕ} (q : IsAveragePlan (problem_of a) B s v) where
  -- n and d are within the limits
  average_limits : (q.n ≤ most_term) × (1 ≤ q.d) × (q.d ≤ most_term)
  average_limits = average_in_limits (table_of a) (fit_legal {t = table_of a} (fit o)) (tested? tests) q.plan

  -- the fields of a plan with these values keep their rules
  average_rules : (number : ℕ) (m : AveragePlan) → m.n ∷ m.d ∷ m.totals.rate.0 ∷ m.totals.distortion.0 ∷ m.totals.peak ∷ m.floor.0 ∷ [] ≡ v →
      RulesHold a.lawless no_faults (average_fields a.N a.Q number B a.weights m)
  average_rules number m e =
      let ok = q.plan.plan.one in
      let z = e ∙ q.values in
      let en : m.n ≡ q.n = ap (λ (l : List ℕ). get_or l 0 0) z in
      let ed : m.d ≡ q.d = ap (λ (l : List ℕ). get_or l 1 0) z in
      let er : m.totals.rate.0 ≡ (problem_of a).rate s = ap (λ (l : List ℕ). get_or l 2 0) z in
      let eD : m.totals.distortion.0 ≡ (problem_of a).distortion s = ap (λ (l : List ℕ). get_or l 3 0) z in
      let ep : m.totals.peak ≡ (problem_of a).peak s = ap (λ (l : List ℕ). get_or l 4 0) z in
      let ef : m.floor.0 ≡ q.floor = ap (λ (l : List ℕ). get_or l 5 0) z in
      let b = average_limits in
      record {
        letters = refl;
        scans = rw (scans_kept o) refl;
        settings = count_kept o;
        law = sound_law o;
        kind = refl;
        weighted = mark_kept a.weights;
        run_14 = refl;
        n = rw (en, ed) (n_kept q.n q.d b.0 b.2 q.plan.lowest);
        d = rw ed (d_kept q.d b.1 b.2);
        rate = rw er (rate_kept ((problem_of a).rate s) B (rate_limit o s ok) q.plan.fits);
        distortion = rw eD (le-ltb most_total ((problem_of a).distortion s) (distortion_limit o s ok));
        peak = rw (ep, eD) (peak_kept (mark_of a.weights) ((problem_of a).peak s) ((problem_of a).distortion s) (peak_limit o s ok) (peak_below o s ok));
        floor = rw (ef, eD) (le-ltb ((problem_of a).distortion s) q.floor
            (floor_at_most (problem_of a) B q.n q.d q.floor s q.proves q.plan.fits));
        run_48 = refl;
      }

module _ {a : Asked} (o : Sound none a) {B : ℕ} {s v : List ℕ} (q : IsMinmaxPlan (problem_of a) B s v) where
  -- the fields of a plan with these values keep their rules
  minmax_rules : (number : ℕ) (m : MinmaxPlan) → m.ceiling ∷ m.totals.rate.0 ∷ m.totals.distortion.0 ∷ m.totals.peak ∷ [] ≡ v →
      RulesHold a.lawless no_faults (minmax_fields a.N a.Q number B a.weights m)
  minmax_rules number m e =
      let ok = q.plan.plan.one.0 in
      let z = e ∙ q.values in
      let er : m.totals.rate.0 ≡ (problem_of a).rate s = ap (λ (l : List ℕ). get_or l 1 0) z in
      let eD : m.totals.distortion.0 ≡ (problem_of a).distortion s = ap (λ (l : List ℕ). get_or l 2 0) z in
      let ep : m.totals.peak ≡ (problem_of a).peak s = ap (λ (l : List ℕ). get_or l 3 0) z in
      record {
        letters = refl;
        scans = rw (scans_kept o) refl;
        settings = count_kept o;
        law = sound_law o;
        kind = refl;
        weighted = mark_kept a.weights;
        run_14 = refl;
        n = no_n_kept _;
        d = no_d_kept;
        rate = rw er (rate_kept ((problem_of a).rate s) B (rate_limit o s ok) (minmax_fits (problem_of a) q.plan));
        distortion = rw eD (le-ltb most_total ((problem_of a).distortion s) (distortion_limit o s ok));
        peak = rw (ep, eD) (peak_kept (mark_of a.weights) ((problem_of a).peak s) ((problem_of a).distortion s) (peak_limit o s ok) (peak_below o s ok));
        floor = refl;
        run_48 = refl;
      }

-- a sequence of a sound call, handed over with fields that keep their rules
handed_written : {a : Asked} {test : ℕ → ℕ → Bool} → Tests test a.law → Sound none a → (s : List ℕ) → (problem_of a).allowed s → (f : Fields) →
    f.scans ≡ a.N → f.settings ≡ a.Q → RulesHold a.lawless no_faults f → (rest : List ℕ) (room : ℕ) →
    write_refusal_under a.lawless test f (s ++ rest) room ≡ when (ltb room (file_length a.N)) refusal.Buffer
handed_written {a} {test} tests o s ok f en eq k rest room =
    rw (← en)
    (only_room a.lawless test f (s ++ rest) room k (rw en (settings_enough o s ok rest))
    (λ j h. rw (en, eq) ((keeps_law a.N a.Q test (λ j. get_or (s ++ rest) j 0) tests).1 (settings_keep o s ok rest) j (omega arith))))

-- a writer that refuses for want of room alone refuses nothing where there is room
room_enough : (o : Option Refusal) (room N : ℕ) → o ≡ when (ltb room (file_length N)) refusal.Buffer → file_length N ≤ room → o ≡ none
room_enough o room N e h = e ∙ ap (λ (t : Bool). when t refusal.Buffer) (le-ltb room (file_length N) h)

-- what is written reads back
pub reads_back_under : (lawless : Bool) (test : ℕ → ℕ → Bool) (f : Fields) (settings : List ℕ) (room : ℕ) →
    write_refusal_under lawless test f settings room ≡ none → f.law < 256 → f.budget < 2 ^ 64 → ReadsBackUnder lawless test f settings
reads_back_under lawless test f settings room w b h = record {
  version = version_back qpl2 qpl2_known f settings;
  fields = fields_back_under lawless test f settings room w qpl2 qpl2_known b h;
  settings_read = settings_back_under lawless test f settings room w qpl2 qpl2_known;
  unrefused = λ r g.
      read_back_under lawless test f settings room w qpl2 qpl2_known b h (held_in_qpl2 f) r ∙ ap (λ (t : Bool). when t refusal.Buffer) (le-ltb r f.scans g);
}

-- .. with the law by its number
reads_back : (f : Fields) (settings : List ℕ) (room : ℕ) → write_refusal f settings room ≡ none → f.budget < 2 ^ 64 → ReadsBack f settings
reads_back f settings room w h = record {
  version = version_back qpl2 qpl2_known f settings;
  fields = fields_back f settings room w qpl2 qpl2_known h;
  settings_read = settings_back f settings room w qpl2 qpl2_known;
  unrefused = λ r g.
      read_back f settings room w qpl2 qpl2_known h (held_in_qpl2 f) r ∙ ap (λ (t : Bool). when t refusal.Buffer) (le-ltb r f.scans g);
}

-- Under any law that has a test, whatever number stands for it in the file.
module _ {a : Asked} {test : ℕ → ℕ → Bool} (tests : Tests test a.law) (number : ℕ) {B : ℕ} {plan scratch plan' scratch' : List ℕ} where
  -- an average plan that is given is refused by the writer only for want of room
  pub average_written_under : (room : ℕ) (m : AveragePlan) → AveragePromise a B plan scratch (Ok m) plan' scratch' →
      write_refusal_under a.lawless test (average_fields a.N a.Q number B a.weights m) plan' room ≡ when (ltb room (file_length a.N)) refusal.Buffer
  average_written_under room m (unsound {r = r} u e f g) = absurd (answered_or_refused r e)
  average_written_under room m (no_sequence o n e f g) = absurd (answered_or_refused refusal.NoSequence e)
  average_written_under room m (none_within o n e f g) = absurd (answered_or_refused refusal.NoneWithin e)
  average_written_under room m (planned o s v q e f g) =
      rw f (handed_written tests o s q.plan.plan.one (average_fields a.N a.Q number B a.weights m) refl refl
      (average_rules tests o q number m (ap (λ (x : Reply). x.values) e)) (drop a.N plan) room)

  -- and so is a minmax plan
  pub minmax_written_under : (room : ℕ) (m : MinmaxPlan) → MinmaxPromise a B plan scratch (Ok m) plan' scratch' →
      write_refusal_under a.lawless test (minmax_fields a.N a.Q number B a.weights m) plan' room ≡ when (ltb room (file_length a.N)) refusal.Buffer
  minmax_written_under room m (unsound {r = r} u e f g) = absurd (answered_or_refused r e)
  minmax_written_under room m (no_sequence o n e f g) = absurd (answered_or_refused refusal.NoSequence e)
  minmax_written_under room m (none_within o n e f g) = absurd (answered_or_refused refusal.NoneWithin e)
  minmax_written_under room m (planned o s v q e f g) =
      rw f (handed_written tests o s q.plan.plan.one.0 (minmax_fields a.N a.Q number B a.weights m) refl refl
      (minmax_rules o q number m (ap (λ (x : Reply). x.values) e)) (drop a.N plan) room)

  -- the file of an average plan that is given reads back, where the number fits its byte
  pub average_read_back_under : (m : AveragePlan) → AveragePromise a B plan scratch (Ok m) plan' scratch' → number < 256 → B < 2 ^ 64 →
      ReadsBackUnder a.lawless test (average_fields a.N a.Q number B a.weights m) plan'
  average_read_back_under m p b h =
      let room : ℕ = file_length a.N in
      reads_back_under a.lawless test (average_fields a.N a.Q number B a.weights m) plan' room
      (room_enough _ room a.N (average_written_under room m p) (le_refl room)) b h

  -- and so does that of a minmax plan
  pub minmax_read_back_under : (m : MinmaxPlan) → MinmaxPromise a B plan scratch (Ok m) plan' scratch' → number < 256 → B < 2 ^ 64 →
      ReadsBackUnder a.lawless test (minmax_fields a.N a.Q number B a.weights m) plan'
  minmax_read_back_under m p b h =
      let room : ℕ = file_length a.N in
      reads_back_under a.lawless test (minmax_fields a.N a.Q number B a.weights m) plan' room
      (room_enough _ room a.N (minmax_written_under room m p) (le_refl room)) b h

-- And so under every law by its number, which stands in the file.
module _ (N Q law : ℕ) (rates distortions weights : List ℕ) (plan_room scratch_room : ℕ) where
  -- the call
  abbrev call : Asked
  call = asking N Q law rates distortions weights plan_room scratch_room

  module _ {B : ℕ} {plan scratch plan' scratch' : List ℕ} where
    pub average_written : (room : ℕ) (m : AveragePlan) → AveragePromise call B plan scratch (Ok m) plan' scratch' →
        write_refusal (average_fields N Q law B weights m) plan' room ≡ when (ltb room (file_length N)) refusal.Buffer
    average_written = average_written_under {a = call} (allows_law law) law

    pub minmax_written : (room : ℕ) (m : MinmaxPlan) → MinmaxPromise call B plan scratch (Ok m) plan' scratch' →
        write_refusal (minmax_fields N Q law B weights m) plan' room ≡ when (ltb room (file_length N)) refusal.Buffer
    minmax_written = minmax_written_under {a = call} (allows_law law) law

    -- where there is room for the file, the writer refuses no average plan that is given
    pub average_accepted : (room : ℕ) (m : AveragePlan) → AveragePromise call B plan scratch (Ok m) plan' scratch' →
        file_length N ≤ room → write_refusal (average_fields N Q law B weights m) plan' room ≡ none
    average_accepted room m p h = room_enough _ room N (average_written room m p) h

    -- and no minmax plan
    pub minmax_accepted : (room : ℕ) (m : MinmaxPlan) → MinmaxPromise call B plan scratch (Ok m) plan' scratch' →
        file_length N ≤ room → write_refusal (minmax_fields N Q law B weights m) plan' room ≡ none
    minmax_accepted room m p h = room_enough _ room N (minmax_written room m p) h

    -- the file of an average plan that is given reads back
    pub average_read_back : (m : AveragePlan) → AveragePromise call B plan scratch (Ok m) plan' scratch' → B < 2 ^ 64 →
        ReadsBack (average_fields N Q law B weights m) plan'
    average_read_back m p h = reads_back _ plan' (file_length N) (average_accepted (file_length N) m p (le_refl (file_length N))) h

    -- and so does that of a minmax plan
    pub minmax_read_back : (m : MinmaxPlan) → MinmaxPromise call B plan scratch (Ok m) plan' scratch' → B < 2 ^ 64 →
        ReadsBack (minmax_fields N Q law B weights m) plan'
    minmax_read_back m p h = reads_back _ plan' (file_length N) (minmax_accepted (file_length N) m p (le_refl (file_length N))) h
