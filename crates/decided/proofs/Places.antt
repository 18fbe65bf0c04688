-- A marker kept by its place and its event, and a colour laid out by condition one persistent precondition at a time.
use Prim.Native.Nat.{ℕ, zero, suc, ◌*◌, ◌-◌, ◌/◌, ◌%◌, ◌≤◌, ◌<◌}
use native.Mathlib.Omega.{arith}
use native.Mathlib.Numerals.{sub-one}
use mathlib.Core.Path.{◌≡◌, refl, sym, ap, ap₂, ◌∙◌, subst}
use mathlib.Core.List.{List, ◌∷◌, map}
use mathlib.Core.Bool.{Bool, true, false, ◌||◌}
use lib.Dec.{T, eqb, leb}
use lib.ListN.{length, get_or, take, drop, set, length-set, length-map}
use lib.Seq.{get_or-set_same, get_or-set_other}
use borrow.Author.Tests.{eqb-true, eqb-false}
use Rattle.lists.specs.Lists.{mem, index, keep, ascending_from}
use Rattle.lists.proofs.Bools.{is_false, and_right}
use Rattle.lists.proofs.Members.{mem_in}
use Rattle.lists.proofs.Distinct.{ascending_least, ascending_lower}
use Rattle.lists.proofs.Places.{at_some, at_get_d}
use Rattle.lists.proofs.Positions.{at_map}
use Rattle.words.specs.Words.{word_at, words}
use Rattle.records.specs.Records.{flags}
use Rattle.model.specs.Net.{Net}
use Rattle.model.specs.Runs.{Marker, at_start, by_event}
use Rattle.model.specs.Unfolding.{markers}
use Rattle.table.specs.Decoded.{net_of}
use Rattle.tally.specs.Having.{having}
use Rattle.colours.specs.Colours.{flagged_in, ending}
use Rattle.events.proofs.Picks.{reads_none, reads_more, first_low, digit_in, picking_more, digits_more}
use Rattle.decided.specs.Kept.{marker_at, kept_marker, Kept, Keeping, Choosing, Chosen}

-- ---- one marker kept

-- what stands after the start are the events
pub marker_next : (n : Net) (b p : ℕ) → suc p < length (markers n b) → get_or (markers n b) (suc p) at_start ≡ by_event (get_or (having n true b n.events) p 0)
unfolding markers
marker_next n b p h =
    let l = having n true b n.events in
    at_get_d (map by_event l) p at_start (at_map by_event l p (at_some l p 0 (omega (arith, length-map {B = Marker} l by_event))))

pub marker_first : (n : Net) (b : ℕ) → get_or (markers n b) 0 at_start ≡ at_start
unfolding markers
marker_first n b = refl

module _ (n : Net) (places kept : List ℕ) (k : Kept n places kept) (b place : ℕ) (low : b < 256) where
  -- a place written, with what is kept for it
  kept_set : (new : List ℕ) → length new ≡ 256 → ((x : ℕ) → (x ≡ b → ⊥) → get_or new x 0 ≡ get_or kept x 0)
      → get_or (markers n b) place at_start ≡ kept_marker place (get_or new b 0) → Kept n (set places b place) new
  kept_set new long other here =
      record { size = length-set places b place ∙ k.size; room = long; each = λ x h. go x h (eqb x b) refl }
    where
      go : (x : ℕ) → x < 256 → (t : Bool) → eqb x b ≡ t → marker_at n (set places b place) x ≡ kept_marker (get_or (set places b place) x 0) (get_or new x 0)
      go x h true q =
          let z : x ≡ b = eqb-true x b q in
          let w : get_or (set places b place) b 0 ≡ place = get_or-set_same places b place 0 (omega (arith, k.size)) in
          rw (z, w) here
      go x h false q =
          let z : x ≡ b → ⊥ = eqb-false x b q in
          rw (get_or-set_other places b x place 0 z, other x z) (k.each x h)

  -- it was the last one asked for
  pub kept_again : get_or places b 0 ≡ place → Kept n (set places b place) kept
  kept_again e = kept_set kept k.room (λ x z. refl) (subst (λ (p : ℕ). get_or (markers n b) p at_start ≡ kept_marker p (get_or kept b 0)) e (k.each b low))

  -- it is the start
  pub kept_start : place ≡ 0 → Kept n (set places b place) kept
  kept_start e = kept_set kept k.room (λ x z. refl) (subst (λ (p : ℕ). get_or (markers n b) p at_start ≡ kept_marker p (get_or kept b 0)) (sym e) (marker_first n b))

  -- it is an event
  pub kept_event : (place ≡ 0 → ⊥) → place < length (markers n b) → (v : ℕ) → v ≡ get_or (having n true b n.events) (place - 1) 0 → Kept n (set places b place) (set kept b v)
  kept_event z h v e =
      kept_set (set kept b v) (length-set kept b v ∙ k.room) (λ x y. get_or-set_other kept b x v 0 y)
      (rw (get_or-set_same kept b v 0 (omega (arith, k.room))) (go place z h e))
    where
      go : (p : ℕ) → (p ≡ 0 → ⊥) → p < length (markers n b) → v ≡ get_or (having n true b n.events) (p - 1) 0 → get_or (markers n b) p at_start ≡ kept_marker p v
      go zero z h e = absurd (z refl)
      go (suc p) z h e = marker_next n b p h ∙ ap by_event (sym (e ∙ rw sub-one))

-- ---- a colour laid out down the last bytes of a list, whose first persistent condition stands i bytes on, by the conditions' bytes

module _ {s ms : List ℕ} {events : ℕ} (pre : List ℕ) {left weight rest : ℕ} {places kept : List ℕ} (h : left ≤ length pre) (q : Choosing s ms events (words (ending left pre)) weight rest places kept)
    {bytes : List ℕ} (f : bytes ≡ flags s) {i : ℕ} (e : i ≡ 2 * index (flagged_in bytes) (words (take (length pre - (length pre - left)) (drop (length pre - left) pre)))) where
  pub chosen_none : left - i < 2 → Chosen s (words (ending left pre)) rest places places kept
  chosen_none g = record { held = q.held; colour = rw (reads_none pre h q.picking f e g) refl; others = λ x m. refl }

  module _ (g : 2 ≤ left - i) {b : ℕ} (z : b ≡ word_at (take (length pre - (length pre - left)) (drop (length pre - left) pre)) i) where
    abbrev later : List ℕ
    later = keep (net_of s).persistent (words (ending (left - i - 2) pre))

    abbrev below : ℕ
    below = weight / get_or ms b 0

    abbrev place : ℕ
    place = rest / below

    split : keep (net_of s).persistent (words (ending left pre)) ≡ b ∷ later
    split = reads_more pre h q.picking f e g z

    low : b < 256
    low = first_low pre h q.picking f e g z

    parted : T (ascending_from 0 (b ∷ later))
    parted = rw split at q.ascends

    climbs : T (ascending_from (suc b) later)
    climbs = and_right (leb 0 b) (ascending_from (suc b) later) parted

    apart : mem b later ≡ false
    apart = is_false (mem b later) (λ t. let l = ascending_least (suc b) later climbs b (mem_in b later t) in omega arith)

    -- a condition that is in neither
    outside : (x : ℕ) → mem x (keep (net_of s).persistent (words (ending left pre))) ≡ false → (eqb x b ≡ false) × (mem x later ≡ false)
    outside x m = go (eqb x b) (mem x later) (sym (ap (mem x) split) ∙ m)
      where
        go : (a c : Bool) → (a || c) ≡ false → (a ≡ false) × (c ≡ false)
        go true c z = absurd (subst T z tt)
        go false c z = (refl, z)

    pub keeping : Keeping s events b place places kept
    keeping =
        let few = q.picking.within.marked.limits.few_events in
        record {
          all = q.picking.within.all;
          few = omega (arith, q.picking.within.all);
          low = low;
          inside = digit_in pre h q.picking f e g z;
          held = q.held;
        }

    pub choosing_more : {ps ks : List ℕ} → Kept (net_of s) ps ks → Choosing s ms events (words (ending (left - i - 2) pre)) below (rest % below) ps ks
    choosing_more k = record { picking = picking_more pre h q.picking f e g z; ascends = ascending_lower 0 (suc b) (omega arith) later climbs; held = k }

    pub chosen_more : {ps new ks : List ℕ} → ps ≡ set places b place → Chosen s (words (ending (left - i - 2) pre)) (rest % below) ps new ks → Chosen s (words (ending left pre)) rest places new ks
    chosen_more {ps} {new} {ks} w c =
        let here : get_or new b 0 ≡ place = c.others b apart ∙ ap (λ (l : List ℕ). get_or l b 0) w ∙ get_or-set_same places b place 0 (omega (arith, q.held.size, low)) in
        let first : marker_at (net_of s) new b ≡ get_or (markers (net_of s) b) place at_start = ap (λ (p : ℕ). get_or (markers (net_of s) b) p at_start) here in
        record {
          held = c.held;
          colour =
              ap (map (marker_at (net_of s) new)) split
              ∙ ap₂ {C = List Marker} (λ x y. x ∷ y) first c.colour ∙ sym (digits_more pre h q.picking f e g z);
          others = λ x m.
              let o = outside x m in
              c.others x o.1 ∙ ap (λ (l : List ℕ). get_or l x 0) w ∙ get_or-set_other places b x place 0 (eqb-false x b o.0);
        }
