-- What bench writes for a text is settled: there is one output. Assumes nothing.
use mathlib.Core.Path.{◌≡◌, refl, sym, ap, ◌∙◌}
use mathlib.Core.List.{List, ◌++◌}
use Prim.Native.Nat.{ℕ}
use Rattle.promise.proofs.Unique.{average_settled, minmax_settled}
use Rattle.workbench.specs.Request.{Request}
use Rattle.workbench.specs.Written.{PromiseOf, PlannedLine, WrittenFor, Writes, alone_bad, alone_large, both_refused, both_planned}

-- one answer and one plan, one line
line_unique : {Answer : Type 0} {promise : PromiseOf Answer} {line_of : Answer → List ℕ → List ℕ} {N Q law B : ℕ}
    {rates distortions line line' : List ℕ}
    (a : PlannedLine promise line_of N Q law B rates distortions line) (b : PlannedLine promise line_of N Q law B rates distortions line') →
    (a.given ≡ b.given) × (a.plan ≡ b.plan) × (a.scratch ≡ b.scratch) → line ≡ line'
line_unique a b u = a.written ∙ rw (u.0, u.1) (sym b.written)

written_unique : {a : Request} {out out' : List ℕ} → WrittenFor a out → WrittenFor a out' → out ≡ out'
written_unique alone_bad alone_bad = refl
written_unique alone_large alone_large = refl
written_unique (both_refused r) (both_refused r') = refl
written_unique (both_planned N Q law B rates distortions f s a m) (both_planned N' Q' law' B' rates' distortions' f' s' a' m') =
    ap (λ (l : List ℕ). l ++ s) (line_unique a a' (average_settled a.given a'.given a.kept a'.kept))
    ∙ ap (λ (l : List ℕ). f' ++ l) (line_unique m m' (minmax_settled m.given m'.given m.kept m'.kept))

-- two outputs that are right for one text are the same
pub writes_unique : (text out out' : List ℕ) → Writes text out → Writes text out' → out ≡ out'
writes_unique text out out' w w' = written_unique w w'
