-- The header and the test behind it, both ways.
use Prim.Native.Nat.{ℕ, ◌+◌, ◌≤◌, ◌<◌}
use native.Mathlib.Omega.{arith}
use mathlib.Core.Path.{◌≡◌, refl, sym, ap}
use mathlib.Core.List.{List}
use mathlib.Core.Bool.{Bool, true, false, cond}
use lib.ListN.{length}
use lib.Dec.{leb}
use borrow.Author.Tests.{le-leb, lt-leb, leb-true}
use Rattle.words.specs.Words.{word_at}
use Rattle.refusal.specs.Answer.{Judged}
use Rattle.std.specs.Prelude.{Ok, Option, None, Some}
use Rattle.records.specs.declared.Header.{Header}
use Rattle.records.specs.Records.{whole, header_of, when_whole}

pub header_short : (s : List ℕ) (at : ℕ) → length s < at + 4 + word_at s at → None ≡ header_of s at
unfolding header_of
header_short s at h = simp (lt-leb _ _ h)

pub header_whole : (s : List ℕ) (at kind len : ℕ) → kind ≡ word_at s (at + 2) → len ≡ word_at s at → at + 4 + len ≤ length s → whole kind len ≡ header_of s at
unfolding header_of
header_whole s at kind len k l h = rw (l, k, le-leb (at + 4 + word_at s at) (length s) (rw l at h))

-- what a whole header tells
pub record Known (s : List ℕ) (at kind len : ℕ) : Type 0 where
  pub kind_is : kind ≡ word_at s (at + 2)
  pub len_is : len ≡ word_at s at
  pub within : at + 4 + len ≤ length s

-- what a header that may be there says
abbrev kind_in : Option Header → ℕ
kind_in None = 0
kind_in (Some header) = header.kind

abbrev len_in : Option Header → ℕ
len_in None = 0
len_in (Some header) = header.len

known_if : (s : List ℕ) (at kind len : ℕ) (b : Bool) → leb (at + 4 + word_at s at) (length s) ≡ b
    → cond b (whole (word_at s (at + 2)) (word_at s at)) None ≡ whole kind len → Known s at kind len
known_if s at kind len true t e =
    let l : word_at s at ≡ len = ap len_in e in
    record { kind_is = sym (ap kind_in e); len_is = sym l; within = rw (← l) (leb-true _ _ t) }
known_if s at kind len false t e =
    let z : ◌≡◌ {A = ℕ} 0 1 = cc in absurd (omega arith)

pub known : (s : List ℕ) (at kind len : ℕ) → header_of s at ≡ whole kind len → Known s at kind len
unfolding header_of
known s at kind len e = known_if s at kind len (leb (at + 4 + word_at s at) (length s)) refl e

-- a fine answer had a whole header
pub whole_fine : (h : Option Header) (at : ℕ) (f : ℕ → ℕ → Judged) (n : ℕ) → when_whole h at f ≡ Ok n → (kind : ℕ) × (len : ℕ) × (h ≡ whole kind len) × (f kind len ≡ Ok n)
whole_fine None at f n e = let z : ◌≡◌ {A = ℕ} 0 1 = cc in absurd (omega arith)
whole_fine (Some header) at f n e = (header.kind, header.len, refl, e)
