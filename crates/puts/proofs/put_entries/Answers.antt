-- `puts::put_entries` meets its contract: zeros, and then entry after entry.
use native.Mathlib.Omega.{arith}
use mathlib.Core.Path.{sym, ap, ◌∙◌}
use Prim.Native.Nat.{ℕ, ◌+◌, ◌*◌, ◌%◌}
use native.Mathlib.Numerals.{add-one}
use lib.ListN.{length, get_or, set, replicate}
use lib.Seq.{sets}
use Rattle.blocks.specs.File.{entry_of}
use Rattle.octets.specs.Bytes.{with_half}
use Rattle.blocks.specs.Packed.{place_of}
use Rattle.puts.proofs.EnteredLaws.{entered, entered_none, entered_more, entered_all}
use Rattle.puts.proofs.EntryLaws.{entry_in, entry_out, setting_small}
use Rattle.puts.proofs.put_entries.Goals as goal

pub loop-j-init : goal.loop-j-init
loop-j-init c =
    let a = c.args in
    c.put_zeros.ensures
    ∙ ap (λ (k : ℕ). sets a.file.now (512 * k + 4) (replicate 504 0)) (add-one a.b)
    ∙ entered_none a.file.now (entry_of (length a.settings.now) a.settings.now) a.b

pub loop-j-preserved : goal.loop-j-preserved
loop-j-preserved c =
    let a = c.args in
    let d = a.file.now in
    let s = a.settings.now in
    let e = entry_of (length s) s in
    let j = c.loop-j.j in
    c.put.ensures
    ∙ ap (λ f. set f (place_of j) (with_half (get_or f (place_of j) 0) (j % 2) (get_or s j 0))) c.loop-j.invariant
    ∙ ap (λ (v : ℕ). set (entered d e a.b j) (place_of j) (with_half (get_or (entered d e a.b j) (place_of j) 0) (j % 2) v))
    (entry_in (length s) s j (omega arith))
    ∙ entered_more d e (setting_small (length s) s c.requires.settings_in_bounds) a.b j (omega arith) (omega arith) (omega arith)
    ∙ ap (entered d e a.b) (sym (add-one j))

pub returns : goal.returns
returns c =
    let a = c.args in
    c.loop-j.invariant
    ∙ entered_all a.file.now (entry_of (length a.settings.now) a.settings.now) a.b c.loop-j.j (λ k h g. entry_out (length a.settings.now) a.settings.now k (omega arith))
