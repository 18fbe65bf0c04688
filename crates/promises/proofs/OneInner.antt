-- One answer only, for the public functions that the calls are made of: two answers of one that both meet its contract are equal, in
-- the result and in the lent output, which stands here as the memory at exit.
use mathlib.Core.Path.{◌≡◌, refl, sym, ap, ap₂, ◌∙◌, subst}
use mathlib.Core.Bool.{Bool}
use mathlib.Core.List.{List, [], ◌∷◌}
use Prim.Native.Nat.{ℕ, zero, suc, ◌+◌, ◌*◌, ◌/◌, ◌%◌, ◌^◌, ◌≤◌, ◌<◌}
use native.Mathlib.Nat.{pow-suc, div-one}
use native.Mathlib.Omega.{arith}
use native.Mathlib.Decide.{dec_le}
use lib.Dec.{eqb}
use lib.ListN.{length, get_or}
use Rattle.lists.specs.Lists.{sum}
use mathlib.Core.Option.{Option, none, some}
use Rattle.model.specs.Net.{Net, Marking, Stop}
use Rattle.model.specs.Lent.{bytes}
use Rattle.model.specs.Numbering.{size, width, event_count}
use Rattle.held.specs.Held.{bit_of, held_in}
use Rattle.held.proofs.Bits.{halved}
use Rattle.refusal.specs.Answer.{Judged, written}
use Rattle.table.specs.Walk.{offset_of}
use Rattle.table.specs.Decoded.{net_of}
use Rattle.tally.specs.Having.{Tally}
use Rattle.layout.proofs.Counts.{sum_part}
use Rattle.std.specs.Prelude.{Option as Perhaps, None, Some, Result, Ok, Err}
use Rattle.unfolding.specs.declared.Coloured.{Coloured}
use Rattle.stopping.specs.Table.{Cause}
use Rattle.step.specs.Tests.{Moves}
use Rattle.unfolding.specs.Numbers.{Owner, Belongs}
use Rattle.pnml.specs.Text.{text_of}
use Rattle.promises.proofs.One.{same_part}
use Rattle.words.proofs.byte.Reads as byte
use Rattle.words.proofs.word.Reads as word
use Rattle.words.proofs.word_within.Reads as word-within
use Rattle.words.proofs.has.Reads as has
use Rattle.words.proofs.ascends.Reads as ascends
use Rattle.words.proofs.all_bits.Reads as all-bits
use Rattle.words.proofs.count_in.Reads as count_in_lem
use Rattle.records.proofs.shown.Reads as shown
use Rattle.records.proofs.header_at.Reads as header_at
use Rattle.records.proofs.old_rule.Reads as old_rule_lem
use Rattle.records.proofs.front.Reads as front
use Rattle.records.proofs.conditions.Reads as conditions
use Rattle.records.proofs.flags.Reads as flags
use Rattle.rules.proofs.rule_record.Reads as rule-record
use Rattle.rules.proofs.conditions_record.Reads as conditions-record
use Rattle.event_rules.proofs.event_record.Reads as event-record
use Rattle.rules.proofs.marking_record.Reads as marking-record
use Rattle.records.proofs.pre_at.Reads as pre_at
use Rattle.records.proofs.post_at.Reads as post-at
use Rattle.records.proofs.marking_at.Reads as marking-at
use Rattle.table.proofs.is_event.Reads as is-event
use Rattle.table.proofs.offset.Reads as offset
use Rattle.game.proofs.first_above.Reads as first_above
use Rattle.held.proofs.holds.Reads as holds
use Rattle.held.proofs.both.Reads as both
use Rattle.held.proofs.either.Reads as either
use Rattle.held.proofs.without.Reads as without
use Rattle.held.proofs.collect.Reads as collect
use Rattle.held.proofs.gather.Reads as gather
use Rattle.held.proofs.spread.Reads as spread
use Rattle.step.proofs.kept.Reads as kept
use Rattle.step.proofs.move_at.Reads as move_at
use Rattle.step.proofs.set_all.Reads as set_all
use Rattle.step.proofs.test_at.Reads as test_at
use Rattle.step.proofs.step_at.Reads as step_at
use Rattle.stopping.proofs.Cause.at.Reads as cause-at
use Rattle.stopping.proofs.RefusalFromCause.from.Reads as refusal-from
use Rattle.game.proofs.judge_lent.Reads as judge-lent
use Rattle.played.proofs.start.Reads as played-start
use Rattle.played.proofs.step_event.Reads as step_event
use Rattle.played.proofs.start_held.Reads as start-held
use Rattle.played.proofs.write_end.Reads as write_end
use Rattle.apart.proofs.apart_at.Reads as apart-at
use Rattle.tally.proofs.number.Reads as count_at
use Rattle.tally.proofs.raise.Reads as raised
use Rattle.tally.proofs.tally.Reads as tallied
use Rattle.tally.proofs.nth.Reads as nth_of
use Rattle.tally.proofs.place.Reads as place-among
use Rattle.colours.proofs.is_persistent.Reads as is-persistent
use Rattle.colours.proofs.first_persistent.Reads as first-persistent
use Rattle.colours.proofs.colours.Reads as colours
use Rattle.layout.proofs.width.Reads as width
use Rattle.unfolding.proofs.marker_code.Reads as marker-code
use Rattle.unfolding.proofs.marker_of.Reads as marker_of_lem
use Rattle.unfolding.proofs.marker_at.Reads as marker_at_lem
use Rattle.unfolding.proofs.marker_place.Reads as marker_place
use Rattle.conditions.specs.Owners.{Owns}
use Rattle.unfolding.proofs.owner.Reads as owner
use Rattle.conditions.proofs.owner.Reads as condition-owner
use Rattle.unfolding.proofs.colours_before.Reads as colours-before
use Rattle.copies.proofs.write_copies.Reads as write-copies
use Rattle.decided.proofs.decide.Reads as decide
use Rattle.located.proofs.locate.Reads as locate
use Rattle.segments.proofs.choose.Reads as choose
use Rattle.segments.proofs.alone.Reads as alone
use Rattle.segments.proofs.joined.Reads as joined
use Rattle.segments.proofs.size_if.Reads as size-if
use Rattle.segments.proofs.total.Reads as total
use Rattle.arcs.proofs.next_owner.Reads as next-owner
use Rattle.pnml.proofs.write.Reads as write-element
use Rattle.export_places.proofs.goes_on.Reads as export-goes-on
use Rattle.export_places.proofs.element_at.Reads as element-at
use Rattle.walking.proofs.test.Reads as ranges-test
use Rattle.walking.proofs.set_ranges.Reads as set-ranges
use Rattle.spelling.proofs.put.Reads as put_byte
use Rattle.spelling.proofs.put_number.Reads as put-number
use Rattle.spelling.proofs.put_text.Reads as put-text
use Rattle.lines.proofs.goes_on.Reads as goes_on
use Rattle.lines.proofs.write.Reads as write-place
use Rattle.lines.proofs.write_refused.Reads as write-refused

-- two lists of the same length that read the same at each place
same_list_lem : (l k : List ℕ) → length l ≡ length k → ((b : ℕ) → b < length l → get_or l b 0 ≡ get_or k b 0) → l ≡ k
same_list_lem [] [] e h = refl
same_list_lem [] (y ∷ k) e h = absurd (omega arith)
same_list_lem (x ∷ l) [] e h = absurd (omega arith)
same_list_lem (x ∷ l) (y ∷ k) e h = ap₂ {C = List ℕ} (λ z w. z ∷ w) (h 0 (omega arith)) (same_list_lem l k (omega arith) (λ b g. h (suc b) (omega arith)))

same_tally : (n : Net) (post : Bool) (first upto : ℕ) (l k : List ℕ) → Tally n post first upto l → Tally n post first upto k → l ≡ k
same_tally n post first upto l k h g = same_list_lem l k (h.size ∙ sym g.size) (λ b low. let c : b < 256 = omega (arith, low, h.size) in h.at b c ∙ sym (g.at b c))

-- no number belongs to an event and to a later one
never_later : (s : List ℕ) (j e at rest weight d by left wide : ℕ) → Owner s j e at rest weight → Owner s j d by left wide → e < d → ⊥
never_later s j e at rest weight d by left wide h g l = omega (arith, sum_part (size (net_of s)) d e l, h.left, h.whole, h.below, g.left)

-- a number falls to one condition, or past the last
same_owned : (f : ℕ → ℕ) (c i b d : ℕ) → Owns f c i b → Owns f c i d → b ≡ d
same_owned f c i b d h g = go (dec_le b d) (dec_le d b)
  where
    apart : (x y : ℕ) → Owns f c i x → Owns f c i y → x < y → ⊥
    apart x y p q l = absurd (omega (arith, sum_part f y x l, p.below (omega (arith, q.most)), q.from))

    go : Dec (b ≤ d) → Dec (d ≤ b) → b ≡ d
    go (yes l) (yes k) = omega arith
    go (no l) k = absurd (apart d b g h (omega arith))
    go (yes l) (no k) = absurd (apart b d h g (omega arith))

same_coloured : (p q : Coloured) → p.event ≡ q.event → p.at ≡ q.at → p.weight ≡ q.weight → p.rest ≡ q.rest → p ≡ q
same_coloured p q a b c d =
    let whole : Coloured → Coloured = λ o. record { event = o.event; at = o.at; weight = o.weight; rest = o.rest } in
    let same : whole p ≡ whole q = rw (a, b, c, d) in
    same

same_owner : (s : List ℕ) (j : ℕ) (r q : Perhaps Coloured) → Belongs s j r → Belongs s j q → r ≡ q
unfolding event_count
same_owner s j None None h g = refl
same_owner s j (Some p) None h g =
    absurd (omega (arith, sum_part (size (net_of s)) (net_of s).events p.event h.event, h.left, h.whole, h.below, g))
same_owner s j None (Some q) h g =
    absurd (omega (arith, sum_part (size (net_of s)) (net_of s).events q.event g.event, g.left, g.whole, g.below, h))
same_owner s j (Some p) (Some q) h g =
    let early = never_later s j p.event p.at p.rest p.weight q.event q.at q.rest q.weight h g in
    let late = never_later s j q.event q.at q.rest q.weight p.event p.at p.rest p.weight g h in
    let z : p.event ≡ q.event = go (dec_le p.event q.event) (dec_le q.event p.event) early late in
    let place : p.at ≡ q.at = h.offset ∙ ap (offset_of s) z ∙ sym g.offset in
    let whole : p.weight ≡ q.weight = h.whole ∙ ap (size (net_of s)) z ∙ sym g.whole in
    let over : p.rest ≡ q.rest = omega (arith, h.left, g.left, ap (sum (size (net_of s))) z) in
    ap {B = Perhaps Coloured} (λ (own : Coloured). Some own) (same_coloured p q z place whole over)
  where
    go : {e d : ℕ} → Dec (e ≤ d) → Dec (d ≤ e) → (e < d → ⊥) → (d < e → ⊥) → e ≡ d
    go (yes a) (yes b) f g = omega arith
    go (yes a) (no b) f g = absurd (f (omega arith))
    go (no a) c f g = absurd (g (omega arith))

-- two moves that tell the same marking, or the same cause
abbrev Alike : Result (List ℕ) Cause → Result (List ℕ) Cause → Type 0
Alike (Ok held) (Ok other) = held_in held ≡ held_in other
Alike (Ok held) (Err cause) = ⊥
Alike (Err cause) (Ok held) = ⊥
Alike (Err cause) (Err other) = cause ≡ other

same_moved : (o : Option Stop) (new : Marking) (r q : Result (List ℕ) Cause) → Moves o new r → Moves o new q → Alike r q
same_moved none new (Ok held) (Ok other) h g = h ∙ sym g
same_moved none new (Ok held) (Err cause) h g = g
same_moved none new (Err cause) q h g = absurd h
same_moved (some v) new (Ok held) q h g = absurd h
same_moved (some v) new (Err cause) (Ok held) h g = g
same_moved (some v) new (Err cause) (Err other) h g = h ∙ sym g

-- ---- bytes and numbers

pub byte_one : (κs : _) (a : _) (r q : _) (x y : _) → byte.Learnt κs a r x → byte.Learnt κs a q y → r ≡ q
byte_one κs a r q x y h g = h ∙ sym g

pub word_one : (κs : _) (a : _) (r q : _) (x y : _) → word.Learnt κs a r x → word.Learnt κs a q y → r ≡ q
word_one κs a r q x y h g = h ∙ sym g

pub word_within_one : (κs : _) (a : _) (r q : _) (x y : _) → word-within.Learnt κs a r x → word-within.Learnt κs a q y → r ≡ q
word_within_one κs a r q x y h g = h ∙ sym g

pub has_one : (κs : _) (a : _) (r q : _) (x y : _) → has.Learnt κs a r x → has.Learnt κs a q y → r ≡ q
has_one κs a r q x y h g = h ∙ sym g

pub ascends_one : (κs : _) (a : _) (r q : _) (x y : _) → ascends.Learnt κs a r x → ascends.Learnt κs a q y → r ≡ q
ascends_one κs a r q x y h g = h ∙ sym g

pub all_bits_one : (κs : _) (a : _) (r q : _) (x y : _) → all-bits.Learnt κs a r x → all-bits.Learnt κs a q y → r ≡ q
all_bits_one κs a r q x y h g = h ∙ sym g

pub count_in_one_lem : (κs : _) (a : _) (r q : _) (x y : _) → count_in_lem.Learnt κs a r x → count_in_lem.Learnt κs a q y → r ≡ q
count_in_one_lem κs a r q x y h g = h ∙ sym g

-- ---- records

pub shown_one : (κs : _) (a : _) (r q : _) (x y : _) → shown.Learnt κs a r x → shown.Learnt κs a q y → (r.ref_ptr.0 ≡ q.ref_ptr.0) × (r.ref_ptr.1 ≡ q.ref_ptr.1) × (r.now ≡ q.now)
shown_one κs a r q x y h g = same_part h g

pub header_at_one : (κs : _) (a : _) (r q : _) (x y : _) → header_at.Learnt κs a r x → header_at.Learnt κs a q y → r ≡ q
header_at_one κs a r q x y h g = h ∙ sym g

pub old_rule_one : (κs : _) (a : _) (r q : _) (x y : _) → old_rule_lem.Learnt κs a r x → old_rule_lem.Learnt κs a q y → r ≡ q
old_rule_one κs a r q x y h g = h ∙ sym g

pub front_one : (κs : _) (a : _) (r q : _) (x y : _) → front.Learnt κs a r x → front.Learnt κs a q y → r ≡ q
front_one κs a r q x y h g = h ∙ sym g

pub conditions_one : (κs : _) (a : _) (r q : _) (x y : _) → conditions.Learnt κs a r x → conditions.Learnt κs a q y → r ≡ q
conditions_one κs a r q x y h g = h ∙ sym g

pub flags_one : (κs : _) (a : _) (r q : _) (x y : _) → flags.Learnt κs a r x → flags.Learnt κs a q y → r.now ≡ q.now
flags_one κs a r q x y h g = h ∙ sym g

pub rule_record_one : (κs : _) (a : _) (r q : _) (x y : _) → rule-record.Learnt κs a r x → rule-record.Learnt κs a q y → r ≡ q
rule_record_one κs a r q x y h g = h ∙ sym g

pub conditions_record_one : (κs : _) (a : _) (r q : _) (x y : _) → conditions-record.Learnt κs a r x → conditions-record.Learnt κs a q y → r ≡ q
conditions_record_one κs a r q x y h g = h ∙ sym g

pub event_record_one : (κs : _) (a : _) (r q : _) (x y : _) → event-record.Learnt κs a r x → event-record.Learnt κs a q y → r ≡ q
event_record_one κs a r q x y h g = h ∙ sym g

pub marking_record_one : (κs : _) (a : _) (r q : _) (x y : _) → marking-record.Learnt κs a r x → marking-record.Learnt κs a q y → r ≡ q
marking_record_one κs a r q x y h g = h ∙ sym g

pub pre_at_one : (κs : _) (a : _) (r q : _) (x y : _) → pre_at.Learnt κs a r x → pre_at.Learnt κs a q y → (r.ref_ptr.0 ≡ q.ref_ptr.0) × (r.ref_ptr.1 ≡ q.ref_ptr.1) × (r.now ≡ q.now)
pre_at_one κs a r q x y h g = same_part h g

pub post_at_one : (κs : _) (a : _) (r q : _) (x y : _) → post-at.Learnt κs a r x → post-at.Learnt κs a q y → (r.ref_ptr.0 ≡ q.ref_ptr.0) × (r.ref_ptr.1 ≡ q.ref_ptr.1) × (r.now ≡ q.now)
post_at_one κs a r q x y h g = same_part h g

pub marking_at_one : (κs : _) (a : _) (r q : _) (x y : _) → marking-at.Learnt κs a r x → marking-at.Learnt κs a q y → (r.ref_ptr.0 ≡ q.ref_ptr.0) × (r.ref_ptr.1 ≡ q.ref_ptr.1) × (r.now ≡ q.now)
marking_at_one κs a r q x y h g = same_part h g

pub is_event_one : (κs : _) (a : _) (r q : _) (x y : _) → is-event.Learnt κs a r x → is-event.Learnt κs a q y → r ≡ q
is_event_one κs a r q x y h g = h ∙ sym g

pub offset_one : (κs : _) (a : _) (r q : _) (x y : _) → offset.Learnt κs a r x → offset.Learnt κs a q y → r ≡ q
offset_one κs a r q x y h g = h ∙ sym g

-- ---- a marking in words: two answers tell the same marking, so they are the same words

-- two numbers of so many bits that have the same bits
same_bits : (n x y : ℕ) → x < 2 ^ n → y < 2 ^ n → ((j : ℕ) → j < n → bit_of x j ≡ bit_of y j) → x ≡ y
same_bits zero x y h k e = omega arith
same_bits (suc n) x y h k e =
    let half = same_bits n (x / 2) (y / 2) (low x h) (low y k) (λ j l.
    ap (λ (z : ℕ). eqb (z % 2) 1) (sym (halved x j)) ∙ e (suc j) (omega arith) ∙ ap (λ (z : ℕ). eqb (z % 2) 1) (halved y j)) in
    let last = digit (x % 2) (y % 2) (omega arith) (omega arith) (ap (λ (z : ℕ). eqb (z % 2) 1) (sym (div-one x)) ∙ e 0 (omega arith) ∙ ap (λ (z : ℕ). eqb (z % 2) 1) (div-one y)) in
    omega (arith, half, last)
  where
    low : (z : ℕ) → z < 2 ^ suc n → z / 2 < 2 ^ n
    low z l = let l : z < 2 ^ n * 2 = subst (λ (p : ℕ). z < p) (pow-suc 2 n) l in omega arith

    digit : (p q : ℕ) → p < 2 → q < 2 → eqb p 1 ≡ eqb q 1 → p ≡ q
    digit zero zero h k e = refl
    digit zero (suc zero) h k e = absurd (let z : ◌≡◌ {A = ℕ} 0 1 = cc in omega arith)
    digit zero (suc (suc q)) h k e = absurd (omega arith)
    digit (suc zero) zero h k e = absurd (let z : ◌≡◌ {A = ℕ} 0 1 = cc in omega arith)
    digit (suc zero) (suc zero) h k e = refl
    digit (suc zero) (suc (suc q)) h k e = absurd (omega arith)
    digit (suc (suc p)) q h k e = absurd (omega arith)

pub same_words : (l k : List ℕ) → length l ≡ length k → ((i : ℕ) → get_or l i 0 < 2 ^ 64) → ((i : ℕ) → get_or k i 0 < 2 ^ 64) → held_in l ≡ held_in k → l ≡ k
unfolding held_in
same_words l k long h g e = same_list_lem l k long (λ i low. same_bits 64 (get_or l i 0) (get_or k i 0) (h i) (g i) (λ j p. at i j p))
  where
    at : (i j : ℕ) → j < 64 → bit_of (get_or l i 0) j ≡ bit_of (get_or k i 0) j
    at i j p =
        let word : (64 * i + j) / 64 ≡ i = omega arith in
        let bit : (64 * i + j) % 64 ≡ j = omega arith in
        rw (word, bit) at (ap (λ (m : Marking). m (64 * i + j)) e)

pub holds_one : (κs : _) (a : _) (r q : _) (x y : _) → holds.Learnt κs a r x → holds.Learnt κs a q y → r ≡ q
holds_one κs a r q x y h g = h ∙ sym g

pub both_one : (κs : _) (a : _) (r q : _) (x y : _) → both.Learnt κs a r x → both.Learnt κs a q y → held_in r ≡ held_in q
both_one κs a r q x y h g = h ∙ sym g

pub either_one : (κs : _) (a : _) (r q : _) (x y : _) → either.Learnt κs a r x → either.Learnt κs a q y → held_in r ≡ held_in q
either_one κs a r q x y h g = h ∙ sym g

pub without_one : (κs : _) (a : _) (r q : _) (x y : _) → without.Learnt κs a r x → without.Learnt κs a q y → held_in r ≡ held_in q
without_one κs a r q x y h g = h ∙ sym g

pub collect_one : (κs : _) (a : _) (r q : _) (x y : _) → collect.Learnt κs a r x → collect.Learnt κs a q y → held_in r ≡ held_in q
collect_one κs a r q x y h g = h ∙ sym g

pub gather_one : (κs : _) (a : _) (r q : _) (x y : _) → gather.Learnt κs a r x → gather.Learnt κs a q y → held_in r ≡ held_in q
gather_one κs a r q x y h g = h ∙ sym g

pub spread_one : (κs : _) (a : _) (r q : _) (x y : _) → spread.Learnt κs a r x → spread.Learnt κs a q y → x.1.1.0.now ≡ y.1.1.0.now
spread_one κs a r q x y h g = h ∙ sym g

-- ---- one step of the game

pub kept_one : (κs : _) (a : _) (r q : _) (x y : _) → kept.Learnt κs a r x → kept.Learnt κs a q y → held_in r ≡ held_in q
kept_one κs a r q x y h g = h ∙ sym g

pub move_at_one : (κs : _) (a : _) (r q : _) (x y : _) → move_at.Learnt κs a r x → move_at.Learnt κs a q y → Alike r q
move_at_one κs a r q x y h g = same_moved _ _ r q h g

pub first_above_one : (κs : _) (a : _) (r q : _) (x y : _) → first_above.Learnt κs a r x → first_above.Learnt κs a q y → r ≡ q
first_above_one κs a r q x y h g = h ∙ sym g

pub set_all_one : (κs : _) (a : _) (r q : _) (x y : _) → set_all.Learnt κs a r x → set_all.Learnt κs a q y → x.1.1.1.0.now ≡ y.1.1.1.0.now
set_all_one κs a r q x y h g = h ∙ sym g

pub test_at_one : (κs : _) (a : _) (r q : _) (x y : _) → test_at.Learnt κs a r x → test_at.Learnt κs a q y → r ≡ q
test_at_one κs a r q x y h g = h ∙ sym g

pub step_at_one : (κs : _) (a : _) (r q : _) (x y : _) → step_at.Learnt κs a r x → step_at.Learnt κs a q y → (r ≡ q) × (x.1.1.0.now ≡ y.1.1.0.now)
step_at_one κs a r q x y h g = (h.0 ∙ sym g.0, h.1 ∙ sym g.1)

pub at_one : (g n c d k i j κs a : _) (r q : _) (x y : _) → cause-at.Learnt g n c d k i j κs a r x → cause-at.Learnt g n c d k i j κs a q y → r ≡ q
at_one g n c d k i j κs a r q x y h e = h ∙ sym e

pub from_one : (g n c d k i j κs a : _) (r q : _) (x y : _) → refusal-from.Learnt g n c d k i j κs a r x → refusal-from.Learnt g n c d k i j κs a q y → r ≡ q
from_one g n c d k i j κs a r q x y h e = h ∙ sym e

pub judge_lent_one : (κs : _) (a : _) (r q : _) (x y : _) → judge-lent.Learnt κs a r x → judge-lent.Learnt κs a q y → r ≡ q
judge_lent_one κs a r q x y h g = h ∙ sym g

-- ---- runs

pub played_start_one : (κs : _) (a : _) (r q : _) (x y : _) → played-start.Learnt κs a r x → played-start.Learnt κs a q y → x.1.1.0.now ≡ y.1.1.0.now
played_start_one κs a r q x y h g = h ∙ sym g

pub step_event_one : (κs : _) (a : _) (r q : _) (x y : _) → step_event.Learnt κs a r x → step_event.Learnt κs a q y → (r ≡ q) × (x.1.1.1.1.0.now ≡ y.1.1.1.1.0.now)
step_event_one κs a r q x y h g = (h.0 ∙ sym g.0, h.1 ∙ sym g.1)

pub start_held_one : (κs : _) (a : _) (r q : _) (x y : _) → start-held.Learnt κs a r x → start-held.Learnt κs a q y → held_in r ≡ held_in q
start_held_one κs a r q x y h g = h ∙ sym g

pub write_end_one : (κs : _) (a : _) (r q : _) (x y : _) → write_end.Learnt κs a r x → write_end.Learnt κs a q y → (r ≡ q) × (x.1.1.0.now ≡ y.1.1.0.now)
write_end_one κs a r q x y h g =
    let e : r ≡ q = h.0 ∙ sym g.0 in
    (e, h.1 ∙ ap (λ (z : Judged). written z (bytes a.1.0 (held_in a.0)) a.1.1.0.now) e ∙ sym g.1)

pub apart_at_one : (κs : _) (a : _) (r q : _) (x y : _) → apart-at.Learnt κs a r x → apart-at.Learnt κs a q y → r ≡ q
apart_at_one κs a r q x y h g = h ∙ sym g

-- ---- counts and places

pub count_at_one : (κs : _) (a : _) (r q : _) (x y : _) → count_at.Learnt κs a r x → count_at.Learnt κs a q y → r ≡ q
count_at_one κs a r q x y h g = h ∙ sym g

pub raised_one : (κs : _) (a : _) (r q : _) (x y : _) → raised.Learnt κs a r x → raised.Learnt κs a q y → x.0.now ≡ y.0.now
raised_one κs a r q x y h g = h ∙ sym g

pub tallied_one : (κs : _) (a : _) (r q : _) (x y : _) → tallied.Learnt κs a r x → tallied.Learnt κs a q y → x.1.1.1.1.0.now ≡ y.1.1.1.1.0.now
tallied_one κs a r q x y h g = same_tally (net_of a.0.now) a.1.1.0 a.1.1.1.0 a.1.0 x.1.1.1.1.0.now y.1.1.1.1.0.now h g

pub nth_of_one : (κs : _) (a : _) (r q : _) (x y : _) → nth_of.Learnt κs a r x → nth_of.Learnt κs a q y → r ≡ q
nth_of_one κs a r q x y h g = h ∙ sym g

pub place_among_one : (κs : _) (a : _) (r q : _) (x y : _) → place-among.Learnt κs a r x → place-among.Learnt κs a q y → r ≡ q
place_among_one κs a r q x y h g = h ∙ sym g

pub is_persistent_one : (κs : _) (a : _) (r q : _) (x y : _) → is-persistent.Learnt κs a r x → is-persistent.Learnt κs a q y → r ≡ q
is_persistent_one κs a r q x y h g = h ∙ sym g

pub first_persistent_one : (κs : _) (a : _) (r q : _) (x y : _) → first-persistent.Learnt κs a r x → first-persistent.Learnt κs a q y → r ≡ q
first_persistent_one κs a r q x y h g = h ∙ sym g

pub width_one : (κs : _) (a : _) (r q : _) (x y : _) → width.Learnt κs a r x → width.Learnt κs a q y → r ≡ q
width_one κs a r q x y h g = h ∙ sym g

pub colours_one : (κs : _) (a : _) (r q : _) (x y : _) → colours.Learnt κs a r x → colours.Learnt κs a q y → r ≡ q
colours_one κs a r q x y h g = h ∙ sym g

-- ---- the unfolding

pub marker_code_one : (κs : _) (a : _) (r q : _) (x y : _) → marker-code.Learnt κs a r x → marker-code.Learnt κs a q y → r ≡ q
marker_code_one κs a r q x y h g = h ∙ sym g

pub marker_of_one : (κs : _) (a : _) (r q : _) (x y : _) → marker_of_lem.Learnt κs a r x → marker_of_lem.Learnt κs a q y → r ≡ q
marker_of_one κs a r q x y h g = h ∙ sym g

pub marker_at_one : (κs : _) (a : _) (r q : _) (x y : _) → marker_at_lem.Learnt κs a r x → marker_at_lem.Learnt κs a q y → r ≡ q
marker_at_one κs a r q x y h g = h ∙ sym g

pub marker_place_one : (κs : _) (a : _) (r q : _) (x y : _) → marker_place.Learnt κs a r x → marker_place.Learnt κs a q y → r ≡ q
marker_place_one κs a r q x y h g = h ∙ sym g

pub condition_owner_one : (κs : _) (a : _) (r q : _) (x y : _) → condition-owner.Learnt κs a r x → condition-owner.Learnt κs a q y → r ≡ q
condition_owner_one κs a r q x y h g = same_owned (width (net_of a.0.now)) a.1.1.0 a.1.1.1.0 r q h g

pub owner_one : (κs : _) (a : _) (r q : _) (x y : _) → owner.Learnt κs a r x → owner.Learnt κs a q y → r ≡ q
owner_one κs a r q x y h g = same_owner a.0.now a.1.1.1.0 r q h g

pub colours_before_one : (κs : _) (a : _) (r q : _) (x y : _) → colours-before.Learnt κs a r x → colours-before.Learnt κs a q y → r ≡ q
colours_before_one κs a r q x y h g = h ∙ sym g

pub write_copies_one : (κs : _) (a : _) (r q : _) (x y : _) → write-copies.Learnt κs a r x → write-copies.Learnt κs a q y → x.1.1.1.1.1.1.1.1.0.now ≡ y.1.1.1.1.1.1.1.1.0.now
write_copies_one κs a r q x y h g = h ∙ sym g

pub decide_one : (κs : _) (a : _) (r q : _) (x y : _) → decide.Learnt κs a r x → decide.Learnt κs a q y → r ≡ q
decide_one κs a r q x y h g = h ∙ sym g

pub locate_one : (κs : _) (a : _) (r q : _) (x y : _) → locate.Learnt κs a r x → locate.Learnt κs a q y → r ≡ q
locate_one κs a r q x y h g = h ∙ sym g

pub choose_one : (κs : _) (a : _) (r q : _) (x y : _) → choose.Learnt κs a r x → choose.Learnt κs a q y → x.1.1.1.1.1.0.now ≡ y.1.1.1.1.1.0.now
choose_one κs a r q x y h g = h ∙ sym g

pub alone_one : (κs : _) (a : _) (r q : _) (x y : _) → alone.Learnt κs a r x → alone.Learnt κs a q y → r ≡ q
alone_one κs a r q x y h g = h ∙ sym g

pub joined_one : (κs : _) (a : _) (r q : _) (x y : _) → joined.Learnt κs a r x → joined.Learnt κs a q y → r ≡ q
joined_one κs a r q x y h g = h ∙ sym g

pub size_if_one : (κs : _) (a : _) (r q : _) (x y : _) → size-if.Learnt κs a r x → size-if.Learnt κs a q y → r ≡ q
size_if_one κs a r q x y h g = h ∙ sym g

pub total_one : (κs : _) (a : _) (r q : _) (x y : _) → total.Learnt κs a r x → total.Learnt κs a q y → r ≡ q
total_one κs a r q x y h g = h ∙ sym g

pub ranges_test_one : (κs : _) (a : _) (r q : _) (x y : _) → ranges-test.Learnt κs a r x → ranges-test.Learnt κs a q y → r ≡ q
ranges_test_one κs a r q x y h g = h ∙ sym g

pub set_ranges_one : (κs : _) (a : _) (r q : _) (x y : _) → set-ranges.Learnt κs a r x → set-ranges.Learnt κs a q y → x.1.1.1.1.0.now ≡ y.1.1.1.1.0.now
set_ranges_one κs a r q x y h g = h ∙ sym g

-- ---- the export

pub next_owner_one : (κs : _) (a : _) (r q : _) (x y : _) → next-owner.Learnt κs a r x → next-owner.Learnt κs a q y → r ≡ q
next_owner_one κs a r q x y h g = same_owner a.0.now _ r q h g

pub write_element_one : (κs : _) (a : _) (r q : _) (x y : _) → write-element.Learnt κs a r x → write-element.Learnt κs a q y → (r ≡ q) × (x.1.1.0.now ≡ y.1.1.0.now)
write_element_one κs a r q x y h g =
    let e : r ≡ q = h.0 ∙ sym g.0 in
    (e, h.1 ∙ ap (λ (z : Judged). written z (text_of a.0 a.1.0) a.1.1.0.now) e ∙ sym g.1)

pub export_goes_on_one : (κs : _) (a : _) (r q : _) (x y : _) → export-goes-on.Learnt κs a r x → export-goes-on.Learnt κs a q y → r ≡ q
export_goes_on_one κs a r q x y h g = h ∙ sym g

pub element_at_one : (κs : _) (a : _) (r q : _) (x y : _) → element-at.Learnt κs a r x → element-at.Learnt κs a q y → r ≡ q
element_at_one κs a r q x y h g = h ∙ sym g

-- ---- bytes, numbers and texts put at a place

pub put_byte_one : (κs : _) (a : _) (r q : _) (x y : _) → put_byte.Learnt κs a r x → put_byte.Learnt κs a q y → (r ≡ q) × (x.0.now ≡ y.0.now)
put_byte_one κs a r q x y h g = (h.told ∙ sym g.told, h.stored ∙ sym g.stored)

pub put_number_one : (κs : _) (a : _) (r q : _) (x y : _) → put-number.Learnt κs a r x → put-number.Learnt κs a q y → (r ≡ q) × (x.0.now ≡ y.0.now)
put_number_one κs a r q x y h g = (h.told ∙ sym g.told, h.stored ∙ sym g.stored)

pub put_text_one : (κs : _) (a : _) (r q : _) (x y : _) → put-text.Learnt κs a r x → put-text.Learnt κs a q y → (r ≡ q) × (x.0.now ≡ y.0.now)
put_text_one κs a r q x y h g = (h.told ∙ sym g.told, h.stored ∙ sym g.stored)

-- ---- the pieces of a listing

pub goes_on_one : (κs : _) (a : _) (r q : _) (x y : _) → goes_on.Learnt κs a r x → goes_on.Learnt κs a q y → r ≡ q
goes_on_one κs a r q x y h g = h ∙ sym g

pub write_refused_one : (κs : _) (a : _) (r q : _) (x y : _) → write-refused.Learnt κs a r x → write-refused.Learnt κs a q y → (r ≡ q) × (x.1.0.now ≡ y.1.0.now)
write_refused_one κs a r q x y h g = (h.told ∙ sym g.told, h.stored ∙ sym g.stored)

pub write_place_one : (κs : _) (a : _) (r q : _) (x y : _) → write-place.Learnt κs a r x → write-place.Learnt κs a q y
    → (r ≡ q) × (x.1.1.1.1.1.1.1.0.now ≡ y.1.1.1.1.1.1.1.0.now) × (x.1.1.1.1.1.1.1.1.0.now ≡ y.1.1.1.1.1.1.1.1.0.now)
write_place_one κs a r q x y h g =
    let m : x.1.1.1.1.1.1.1.0.now ≡ y.1.1.1.1.1.1.1.0.now = h.0 ∙ sym g.0 in
    (h.1.0 ∙ rw m (sym g.1.0), m, h.1.1.stored ∙ rw m (sym g.1.1.stored))
