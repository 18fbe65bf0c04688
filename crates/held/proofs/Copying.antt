-- Bytes copied one after the other over the first ones of a lent output.
use Prim.Native.Nat.{ℕ, suc, ◌+◌, ◌≤◌, ◌<◌}
use native.Mathlib.Numerals.{add-one}
use native.Mathlib.Omega.{arith}
use mathlib.Core.Path.{◌≡◌, sym, ap, ◌∙◌, subst}
use mathlib.Core.List.{List, ◌++◌, append-nil}
use lib.ListN.{length, get_or, take, drop, set, length-set, drop_of_length-le}
use lib.Seq.{paste, paste-suc, take_all}
use Rattle.model.specs.Net.{Marking}
use Rattle.model.specs.Lent.{bit, bytes}
use Rattle.model.proofs.Lent.{length_bytes, bytes_at}

pub record Copied (from : List ℕ) (c : ℕ) (out₀ out : List ℕ) (i : ℕ) : Type 0 where
  pub upto : i ≤ c
  pub long : length out ≡ length out₀
  pub is : out ≡ paste out₀ 0 from i

pub copy_on : (from : List ℕ) (c : ℕ) (out₀ out : List ℕ) (i : ℕ) → Copied from c out₀ out i → i < c → c ≤ length from → c ≤ length out₀
    → Copied from c out₀ (set out i (get_or from i 0)) (i + 1)
copy_on from c out₀ out i g h p q =
    let z : 0 + i ≡ i = omega arith in
    let s = paste-suc out₀ 0 from i 0 (omega arith) (omega arith) in
    record {
      upto = omega arith;
      long = length-set out i (get_or from i 0) ∙ g.long;
      is = ap (λ (x : List ℕ). set x i (get_or from i 0)) g.is
          ∙ rw add-one (subst (λ (x : ℕ). set (paste out₀ 0 from i) x (get_or from i 0) ≡ paste out₀ 0 from (suc i)) z s);
    }

pub copy_end : (from : List ℕ) (c : ℕ) (out₀ out : List ℕ) (i : ℕ) → Copied from c out₀ out i → c ≤ i → out ≡ take c from ++ drop c out₀
copy_end from c out₀ out i g h =
    let e : i ≡ c = omega (arith, g.upto) in
    let z : 0 + c ≡ c = omega arith in
    rw z at (g.is ∙ ap (paste out₀ 0 from) e)

-- ---- what is copied are the bytes of a marking

module _ (m : Marking) (c : ℕ) (out₀ out : List ℕ) (i : ℕ) (g : Copied (bytes c m) c out₀ out i) where
  pub spread_on : (x : ℕ) → x ≡ bit (m i) → i < c → c ≤ length out₀ → Copied (bytes c m) c out₀ (set out i x) (i + 1)
  spread_on x e h q =
      subst (λ (y : ℕ). Copied (bytes c m) c out₀ (set out i y) (i + 1)) (bytes_at c m i h ∙ sym e)
      (copy_on (bytes c m) c out₀ out i g h (omega (arith, length_bytes c m)) q)

  pub spread_end : c ≤ i → length out₀ ≤ c → out ≡ bytes c m
  spread_end h few =
      let whole = take_all c (bytes c m) (omega (arith, length_bytes c m)) in
      copy_end (bytes c m) c out₀ out i g h ∙ rw (whole, drop_of_length-le out₀ few, append-nil)
