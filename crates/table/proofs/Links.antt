-- The model's refusals in a chain of answers: what a fine answer tells of the links, and what a refused one leaves open.
use Prim.Native.Nat.{ℕ}
use mathlib.Core.Path.{◌≡◌, refl, sym}
use mathlib.Core.Option.{Option, none, some}
use Rattle.model.specs.Across.{Refusal}
use Rattle.refusal.specs.declared.Refusal as declared
use Rattle.refusal.specs.Answer.{Judged}
use Rattle.std.specs.Prelude.{Ok, Err}
use Rattle.refusal.proofs.Chain.{never_both}
use Rattle.table.specs.Links.{refused_or}

-- where the answer is fine nothing was refused
pub link_fine : (o : Option Refusal) (rest : Judged) (c : ℕ) → refused_or o rest ≡ Ok c → (o ≡ none) × (rest ≡ Ok c)
link_fine none rest c e = (refl, e)
link_fine (some x) rest c e = never_both (sym e)

-- ---- two links before a number

pub links_open : (a b : Option Refusal) (c x : ℕ) → refused_or a (refused_or b (Ok c)) ≡ Ok x → (a ≡ none) × (b ≡ none)
links_open a b c x e = let p = link_fine a (refused_or b (Ok c)) x e in (p.0, (link_fine b (Ok c) x p.1).0)

-- a refusal is that of the links, whatever follows them; a fine answer leaves what follows
pub links_refused : (a b : Option Refusal) (c : ℕ) (rest : Judged) (x : declared.Refusal) → refused_or a (refused_or b (Ok c)) ≡ Err x
    → refused_or a (refused_or b (Ok c)) ≡ refused_or a (refused_or b rest)
links_refused none none c rest x e = never_both e
links_refused none (some y) c rest x e = refl
links_refused (some y) b c rest x e = refl

pub links_fine : (a b : Option Refusal) (c x : ℕ) (rest : Judged) → refused_or a (refused_or b (Ok c)) ≡ Ok x → (x ≡ c) × (rest ≡ refused_or a (refused_or b rest))
links_fine none none c x rest e = (cc, refl)
links_fine none (some y) c x rest e = never_both (sym e)
links_fine (some y) b c x rest e = never_both (sym e)
