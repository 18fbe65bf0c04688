-- What is read at an offset where known bytes stand: numbers, parts, a framed record.
use Prim.Native.Nat.{ℕ, ◌+◌, ◌-◌, ◌*◌, ◌%◌, ◌/◌}
use native.Mathlib.Omega.{arith}
use mathlib.Core.Path.{◌≡◌, sym, ap, ◌∙◌}
use mathlib.Core.List.{List, [], ◌∷◌, ◌++◌}
use lib.ListN.{length, get_or, take, drop, length-drop, length-append}
use lib.Seq.{get_or-drop, drop-drop, take_at, drop_at}
use Rattle.words.specs.Words.{word_at, bytes_of}
use Rattle.words.proofs.Laws.{two_bytes}
use Rattle.records.specs.Records.{whole, part, header_of}
use Rattle.records.proofs.Headers.{header_whole}
use Rattle.encoding.specs.Encoded.{framed}

-- two bytes that stand at an offset
module _ (s : List ℕ) (at a b : ℕ) (r : List ℕ) (stands : drop at s ≡ a ∷ b ∷ r) where
  word_stands : word_at s at ≡ a + 256 * b
  word_stands =
      let none : at + 0 ≡ at = omega arith in
      let low : get_or s at 0 ≡ a = ap (λ (i : ℕ). get_or s i 0) (sym none) ∙ sym (get_or-drop at s 0 0) ∙ ap (λ (l : List ℕ). get_or l 0 0) stands in
      let high : get_or s (at + 1) 0 ≡ b = sym (get_or-drop at s 1 0) ∙ ap (λ (l : List ℕ). get_or l 1 0) stands in
      rw (low, high)

  rest_stands : drop (at + 2) s ≡ r
  rest_stands = sym (drop-drop 2 at s) ∙ ap (drop 2) stands

-- a number that stands at an offset, and what stands after it
pub number_stands : (s : List ℕ) (at w : ℕ) (ws r : List ℕ) → drop at s ≡ bytes_of (w ∷ ws) ++ r → (word_at s at ≡ w) × (drop (at + 2) s ≡ bytes_of ws ++ r)
unfolding bytes_of
number_stands s at w ws r e =
    (word_stands s at (w % 256) (w / 256) (bytes_of ws ++ r) e ∙ two_bytes w, rest_stands s at (w % 256) (w / 256) (bytes_of ws ++ r) e)

-- a part that stands at an offset, and what stands after it
pub part_stands : (s : List ℕ) (at k : ℕ) (l r : List ℕ) → drop at s ≡ l ++ r → length l ≡ k → (part s at k ≡ l) × (drop (at + k) s ≡ r)
part_stands s at k l r e h =
    (ap (take k) e ∙ take_at l r k h, sym (drop-drop k at s) ∙ ap (drop k) e ∙ drop_at l r k h)

-- What is read at a framed record.
pub record Frame (s : List ℕ) (at kind : ℕ) (payload r : List ℕ) : Type 0 where
  pub len_is : word_at s at ≡ length payload
  pub header : header_of s at ≡ whole kind (length payload)
  pub body : drop (at + 4) s ≡ payload ++ r
  pub total : length s ≡ at + 4 + length payload + length r
  pub after : drop (at + 4 + word_at s at) s ≡ r

pub frame_stands : (s : List ℕ) (at kind : ℕ) (payload r : List ℕ) → drop at s ≡ framed kind payload ++ r → Frame s at kind payload r
unfolding bytes_of
frame_stands s at kind payload r e =
    let (l, e2) = number_stands s at (length payload) (kind ∷ []) (payload ++ r) e in
    let (k, e4) = number_stands s (at + 2) kind [] (payload ++ r) e2 in
    let four : at + 2 + 2 ≡ at + 4 = omega arith in
    let body : drop (at + 4) s ≡ payload ++ r = ap (λ (i : ℕ). drop i s) (sym four) ∙ e4 in
    let long : length s - at ≡ 4 + (length payload + length r) = omega (arith, length-drop at s, ap length e, length-append payload r) in
    record {
      len_is = l;
      header = sym (header_whole s at kind (length payload) (sym k) (sym l) (omega arith));
      body = body;
      total = omega arith;
      after = (part_stands s (at + 4) (word_at s at) payload r body (sym l)).1;
    }
