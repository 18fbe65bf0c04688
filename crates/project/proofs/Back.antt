-- A run read back into an output, number by number.
use Prim.Native.Nat.{ℕ, zero, suc, ◌+◌, ◌-◌, ◌≤◌, ◌<◌}
use native.Mathlib.Omega.{arith}
use native.Mathlib.Decide.{dec_le}
use native.Mathlib.Nat.{lt_of_not-le}
use mathlib.Core.Path.{◌≡◌, refl, sym, ap, ◌∙◌, subst}
use mathlib.Core.Bool.{Bool, true, false}
use mathlib.Core.List.{List, ◌++◌, map}
use lib.Dec.{eqb}
use lib.ListN.{length, get_or, set, drop, length-set, length-map, length-drop, length-append, get_or-append}
use lib.Seq.{get_or-set_same, get_or-set_other, ext_get_or, get_or-append-add, get_or-drop}
use borrow.Author.Tests.{eqb-true, eqb-false, lt-leb, le-leb}
use Rattle.lists.proofs.Places.{at_some, at_get_d}
use Rattle.lists.proofs.Positions.{at_map}
use Rattle.model.specs.Net.{Net}
use Rattle.model.specs.Unfolding.{origin}
use Rattle.model.specs.Numbering.{size}
use Rattle.model.specs.Across.{read_back}
use Rattle.refusal.specs.Answer.{Judged, refused_at, value_of, fitting}
use Rattle.std.specs.Prelude.{Ok}
use Rattle.refusal.proofs.Chain.{need_passes, need_refuses}
use Rattle.layout.specs.Laid.{Sums}
use Rattle.across.specs.Prepared.{Around, Between}
use Rattle.project.specs.Walked.{Reading, Read}
use Rattle.project.proofs.Located.{origin_is}

module _ (before : List ℕ) (events : ℕ) (w : List ℕ) where
  pub read_start : (out : List ℕ) → Read before events w 0 out out
  read_start out = record { long = refl; events_of_lem = λ i h. absurd (omega arith); rest = λ i h. refl }

  pub read_around : Reading before events w → (k : ℕ) → k < length w → Around before 0 events (get_or w k 0)
  read_around r k h = record {
    within = omega (arith, r.few, r.size);
    apart = go events refl;
    from = omega (arith, r.first);
    to = r.each k h;
  }
    where
      go : (x : ℕ) → events ≡ x → 0 < x
      go zero q = absurd (let z : get_or before events 0 ≡ get_or before 0 0 = ap (λ (x : ℕ). get_or before x 0) q in omega (arith, r.first, r.each k h))
      go (suc x) q = omega arith

  pub read_on : (k : ℕ) (old new : List ℕ) → Read before events w k old new → k < length new → (e : ℕ) → Between before events (get_or w k 0) e → Read before events w (k + 1) old (set new k e)
  read_on k old new r h e b =
      record {
        long = length-set new k e ∙ r.long;
        events_of_lem = λ i l. go i l (eqb i k) refl;
        rest = λ i l. get_or-set_other new k i e 0 (λ z. omega arith) ∙ r.rest i (omega arith);
      }
    where
      go : (i : ℕ) → i < k + 1 → (t : Bool) → eqb i k ≡ t → Between before events (get_or w i 0) (get_or (set new k e) i 0)
      go i l true q = let z : i ≡ k = eqb-true i k q in rw (z, get_or-set_same new k e 0 h) b
      go i l false q = let z : i ≡ k → ⊥ = eqb-false i k q in rw (get_or-set_other new k i e 0 z) (r.events_of_lem i (omega (arith, z)))

  pub read_end : (k : ℕ) (old new : List ℕ) → Read before events w k old new → k ≡ length w → Read before events w (length w) old new
  read_end k old new r e = subst (λ (x : ℕ). Read before events w x old new) e r

-- ---- where the output has room for them

module _ (before : List ℕ) (events : ℕ) (w old : List ℕ) where
  pub short_written : (a : Judged) → a ≡ refused_at 16 (length w) → length old < length w → (a ≡ fitting (length w) (length old)) × Read before events w (value_of a) old old
  unfolding fitting
  short_written a z h =
      (z ∙ sym (need_refuses 16 (length w) (Ok (length w)) (lt-leb (length w) (length old) h)), subst (λ (x : Judged). Read before events w (value_of x) old old) (sym z) (read_start before events w old))

  pub fits_written : (new : List ℕ) → Read before events w (length w) old new → length w ≤ length old
      → (Ok (length w) ≡ fitting (length w) (length old)) × Read before events w (length w) old new
  unfolding fitting
  fits_written new r h = (sym (need_passes 16 (length w) (le-leb (length w) (length old) h)), r)

-- where none is read back the output is as it was
pub read_none : (before : List ℕ) (events : ℕ) (w old new : List ℕ) → Read before events w 0 old new → new ≡ old
read_none before events w old new r = ext_get_or 0 new old r.long (λ i h. r.rest i (omega arith))

-- what is read back is the model's
pub read_is : (n : Net) (before : List ℕ) → Sums (size n) n.events before → (events : ℕ) → events ≡ n.events → (w old new : List ℕ) → length w ≤ length old
    → Read before events w (length w) old new → new ≡ read_back n w ++ drop (length w) old
unfolding read_back
read_is n before sizes events all w old new room r =
    ext_get_or 0 new (back ++ drop (length w) old) (r.long ∙ omega (arith, length-append back (drop (length w) old), back_length, length-drop (length w) old)) (λ i h. go i (dec_le (length w) i))
  where
    back : List ℕ
    back = map (λ j. (origin n j).event) w

    back_length : length back ≡ length w
    back_length = length-map w (λ j. (origin n j).event)

    here : (i : ℕ) → i < length w → get_or new i 0 ≡ get_or (back ++ drop (length w) old) i 0
    here i h =
        let b : Between before n.events (get_or w i 0) (get_or new i 0) = rw (← all) (r.events_of_lem i h) in
        sym (get_or-append back (drop (length w) old) 0 i (omega (arith, back_length))
        ∙ at_get_d back i 0 (at_map (λ j. (origin n j).event) w i (at_some w i 0 h)) ∙ rw (origin_is n before sizes (get_or w i 0) (get_or new i 0) b) refl)

    past : (i : ℕ) → length w ≤ i → get_or new i 0 ≡ get_or (back ++ drop (length w) old) i 0
    past i h =
        let e : length back + (i - length w) ≡ i = omega (arith, back_length) in
        let f : length w + (i - length w) ≡ i = omega arith in
        r.rest i h
        ∙ sym (ap (λ (x : ℕ). get_or (back ++ drop (length w) old) x 0) (sym e) ∙ get_or-append-add back (drop (length w) old) (i - length w) 0
        ∙ get_or-drop (length w) old (i - length w) 0 ∙ ap (λ (x : ℕ). get_or old x 0) f)

    go : (i : ℕ) → Dec (length w ≤ i) → get_or new i 0 ≡ get_or (back ++ drop (length w) old) i 0
    go i (yes h) = past i h
    go i (no h) = here i (lt_of_not-le h)
