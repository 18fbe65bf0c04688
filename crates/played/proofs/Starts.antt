-- The start of a table as bytes and as words.
use Prim.Native.Nat.{ℕ}
use native.Mathlib.Omega.{arith}
use mathlib.Core.Path.{◌≡◌, ap, ◌∙◌}
use mathlib.Core.List.{List, []}
use lib.ListN.{replicate}
use Rattle.lists.proofs.Bools.{is_false}
use Rattle.lists.specs.Lists.{mem}
use Rattle.model.specs.Net.{begin}
use Rattle.std.specs.Prelude.{Ok}
use Rattle.words.specs.Words.{words}
use Rattle.records.specs.Records.{marking_part}
use Rattle.table.specs.Walk.{judge_of, offset_of}
use Rattle.table.specs.Decoded.{net_of}
use Rattle.table.proofs.Sound.{accepted_sound}
use Rattle.table.proofs.Sound as net
use Rattle.table.proofs.Decoded.{start_read}
use Rattle.held.specs.Held.{held_in, tabled}
use Rattle.held.proofs.Words.{tabled_tidy}
use Rattle.model.specs.Lent.{bytes}
use Rattle.step.specs.Steps.{set_all}
use Rattle.step.proofs.Firing.{put_all}

pub start_put : (s : List ℕ) (n : ℕ) → judge_of s ≡ Ok n → (part l : List ℕ) (at : ℕ) → at ≡ offset_of s n → part ≡ marking_part s at → l ≡ replicate 256 0
    → set_all [] 1 (words part) l ≡ bytes 256 (begin (net_of s))
unfolding begin
start_put s n j part l at is_at is_part zeros =
    ap (set_all [] 1 (words part)) zeros ∙ put_all (words part) 256
    ∙ ap (λ (bs : List ℕ). bytes 256 (λ b. mem b bs)) (ap words (is_part ∙ ap (marking_part s) is_at) ∙ start_read s n j)

pub start_collected : (s : List ℕ) (n : ℕ) → judge_of s ≡ Ok n → (part held : List ℕ) (at : ℕ) → at ≡ offset_of s n → part ≡ marking_part s at
    → held_in held ≡ tabled (λ b. mem b (words part)) → held_in held ≡ begin (net_of s)
unfolding begin
start_collected s n j part held at is_at is_part is =
    is ∙ ap (λ (bs : List ℕ). tabled (λ b. mem b bs)) (ap words (is_part ∙ ap (marking_part s) is_at) ∙ start_read s n j)
    ∙ tabled_tidy (λ b. mem b (net_of s).start) (λ b h.
    is_false (mem b (net_of s).start) (λ i. omega (arith, (accepted_sound s n j).start_in b i, (net.tabled s n j).few_conditions)))
