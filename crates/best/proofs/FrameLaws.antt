-- What is left in the lent buffers: nothing past what is needed has changed, and then what is needed is zero. Assumes nothing.
use mathlib.Core.Path.{◌≡◌, sym, ap, ◌∙◌}
use mathlib.Core.List.{List}
use Prim.Native.Nat.{ℕ, ◌+◌, ◌-◌, ◌≤◌, ◌<◌}
use native.Mathlib.Decide.{dec_lt}
use native.Mathlib.Omega.{arith}
use lib.ListN.{length, get_or, drop, replicate, length-append, length-replicate, length-drop, get_or-replicate, get_or-append}
use lib.Seq.{sets, ext_get_or, get_or-drop, drop_at}
use Rattle.laws.proofs.Stores.{zeros_front}
use Rattle.seek.specs.Sought.{Framed}
use Rattle.seek.proofs.SeekLaws.{wiped_same}
use Rattle.within.specs.Rows.{AllPut}
use Rattle.promise.specs.Promise.{cleared}

pub framed_wider : {k m : ℕ} {before after : List ℕ} → k ≤ m → Framed k before after → Framed m before after
framed_wider h f = record { long = f.long; rest = λ i g. f.rest i (omega arith) }

-- the length and the places of a buffer whose first k are zero
length_cleared : (k : ℕ) (l : List ℕ) → k ≤ length l → length (cleared k l) ≡ length l
length_cleared k l h = omega (arith, length-append (replicate k 0) (drop k l), length-replicate {A = ℕ} k 0, length-drop k l)

zero_at : (k : ℕ) (l : List ℕ) (i : ℕ) → i < k → get_or (cleared k l) i 0 ≡ 0
zero_at k l i h =
    let n : length (replicate {A = ℕ} k 0) ≡ k = length-replicate k 0 in
    get_or-append (replicate k 0) (drop k l) 0 i (omega (arith, n)) ∙ get_or-replicate k i 0 0 h

rest_at : (k : ℕ) (l : List ℕ) (i : ℕ) → k ≤ i → get_or (cleared k l) i 0 ≡ get_or l i 0
rest_at k l i h =
    let e : k + (i - k) ≡ i = omega arith in
    let b : drop k (cleared k l) ≡ drop k l = drop_at (replicate k 0) (drop k l) k (length-replicate k 0) in
    let f : get_or (cleared k l) (k + (i - k)) 0 ≡ get_or l (k + (i - k)) 0 =
    sym (get_or-drop k (cleared k l) (i - k) 0) ∙ ap (λ (m : List ℕ). get_or m (i - k) 0) b ∙ get_or-drop k l (i - k) 0 in
    rw e at f

pub cleared_framed : {k : ℕ} {before after : List ℕ} → k ≤ length before → after ≡ cleared k before → Framed k before after
cleared_framed {k} {before} h e = rw e (record { long = length_cleared k before h; rest = rest_at k before })

-- zeros that are put, as bytes and as cells
pub zeros_stored : {k : ℕ} {entry before after : List ℕ} → k ≤ length before → Framed k entry before → after ≡ sets before 0 (replicate k 0) → after ≡ cleared k entry
zeros_stored {k} {before = before} h f e = e ∙ zeros_front k before h ∙ wiped_same f

pub zeros_put : {k : ℕ} {entry before after : List ℕ} → k ≤ length before → Framed k entry before → AllPut 0 k 0 before after → after ≡ cleared k entry
zeros_put {k} {entry} {before} {after} h f a =
    ext_get_or 0 after (cleared k before) (a.long ∙ sym (length_cleared k before h)) (λ i g. at i (dec_lt i k)) ∙ wiped_same f
  where
    at : (i : ℕ) → Dec (i < k) → get_or after i 0 ≡ get_or (cleared k before) i 0
    at i (yes l) = (let e : 0 + i ≡ i = omega arith in rw e at (a.put i l)) ∙ sym (zero_at k before i l)
    at i (no l) = a.rest.same i (λ x y. omega arith) ∙ sym (rest_at k before i (omega arith))
