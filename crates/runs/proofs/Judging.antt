-- What a fine answer says of a Run or Lifted record and of its run, and which inputs get one.
use Prim.Native.Nat.{ℕ, ◌+◌, ◌*◌, ◌/◌, ◌%◌, ◌≤◌, ◌<◌}
use native.Mathlib.Nat.{add_assoc}
use native.Mathlib.Omega.{arith}
use mathlib.Core.Path.{◌≡◌, refl, sym, ◌∙◌}
use mathlib.Core.List.{List}
use lib.ListN.{length, get_or, drop, length-drop}
use lib.Seq.{take_all, get_or-drop}
use borrow.Author.Tests.{le-leb, eq-eqb, leb-true, eqb-true}
use Rattle.model.specs.Across.{most_steps}
use Rattle.std.specs.Prelude.{Ok}
use Rattle.refusal.specs.Answer.{need}
use Rattle.refusal.proofs.Chain.{need_fine}
use Rattle.words.specs.Words.{word_at}
use Rattle.words.proofs.Laws.{length_words, words_at}
use Rattle.records.specs.Records.{part, header_of}
use Rattle.records.proofs.Headers.{known, header_whole, whole_fine}
use Rattle.runs.specs.Runs.{steps_in, run_of}

-- The input is one record of the kind with n steps and nothing more.
pub record IsRecord (kind : ℕ) (bytes : List ℕ) (n : ℕ) : Type 0 where
  pub kind_is : word_at bytes 2 ≡ kind
  pub length_is : word_at bytes 0 ≡ 2 * n
  pub whole_input : length bytes ≡ 4 + 2 * n
  pub few : n ≤ most_steps

-- An input is found to have n steps exactly if it is a record of n steps.
pub fine_is_record : (kind : ℕ) (bytes : List ℕ) (n : ℕ) → steps_in kind bytes ≡ Ok n → IsRecord kind bytes n
unfolding steps_in
fine_is_record kind bytes n e =
    let (found, len, whole, e0) = whole_fine (header_of bytes 0) 0 _ n e in
    let header = known bytes 0 found len whole in
    let (kinds, e1) = need_fine _ 2 0 n _ e0 in
    let (evens, e2) = need_fine _ 3 0 n _ e1 in
    let (few, e3) = need_fine _ 3 0 n _ e2 in
    let (alone, e4) = need_fine _ 9 (4 + len) n _ e3 in
    let half : len / 2 ≡ n = cc e4 in
    let even : len % 2 ≡ 0 = eqb-true _ _ evens in
    record {
      kind_is = sym header.kind_is ∙ eqb-true _ _ kinds;
      length_is = omega arith;
      whole_input = omega (arith, leb-true (length bytes) (4 + len) alone);
      few = omega (arith, leb-true (len / 2) most_steps few);
    }

pub record_is_fine : (kind : ℕ) (bytes : List ℕ) (n : ℕ) → IsRecord kind bytes n → steps_in kind bytes ≡ Ok n
unfolding steps_in need
record_is_fine kind bytes n r =
    let header = header_whole bytes 0 kind (2 * n) (sym r.kind_is) (sym r.length_is) (omega arith) in
    let even : 2 * n % 2 ≡ 0 = omega arith in
    let half : 2 * n / 2 ≡ n = omega arith in
    let few = le-leb n most_steps r.few in
    let alone = le-leb (length bytes) (4 + 2 * n) (omega arith) in
    rw (← header, eq-eqb kind kind refl, even, half, few, alone)

-- The run that such a record holds has n steps, and step k is the number at byte 4 + 2k.
module _ {kind : ℕ} {bytes : List ℕ} {n : ℕ} (r : IsRecord kind bytes n) where
  payload : part bytes 4 (word_at bytes 0) ≡ drop 4 bytes
  payload = take_all (word_at bytes 0) (drop 4 bytes) (rw length-drop (omega arith))

  pub length_run : length (run_of bytes) ≡ n
  length_run = rw (payload, length_words, length-drop) (omega arith)

  pub step_at : (k : ℕ) → k < n → get_or (run_of bytes) k 0 ≡ word_at bytes (4 + 2 * k)
  step_at k h =
      rw payload (words_at (drop 4 bytes) k (rw length-drop (omega arith)) ∙ simp (get_or-drop, add_assoc))
