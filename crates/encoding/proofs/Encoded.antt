-- A net within the limits, written as a table, is accepted and read again as that net.
use Prim.Native.Nat.{ℕ, zero, suc, ◌+◌, ◌-◌, ◌*◌, ◌%◌, ◌≤◌, ◌<◌}
use native.Mathlib.Nat.{mul-mod_right}
use native.Mathlib.Omega.{arith}
use mathlib.Core.Path.{◌≡◌, refl, sym, ap, ◌∙◌}
use mathlib.Core.List.{List, [], ◌∷◌, ◌++◌, append-nil, append_assoc, map}
use mathlib.Core.Bool.{Bool, true, false, cond}
use lib.Dec.{T, eqb}
use lib.ListN.{length, get_or, drop, length-append}
use lib.Seq.{get_or-drop}
use borrow.Author.Tests.{eq-eqb, ne_eqb}
use Rattle.lists.specs.Lists.{count, fits}
use Rattle.lists.proofs.Bools.{is_true}
use Rattle.lists.proofs.Members.{keep_same}
use Rattle.lists.proofs.Tests.{fits_of}
use Rattle.model.specs.Net.{Net, Marking}
use Rattle.model.specs.Lent.{bit, bytes}
use Rattle.model.specs.Unfolding.{reads}
use Rattle.model.proofs.Lent.{length_bytes, bytes_at, bit_one}
use Rattle.words.specs.Words.{word_at, words, bytes_of, bits, count_in}
use Rattle.words.proofs.Laws.{length_bytes_of, words_bytes_of}
use Rattle.refusal.specs.Answer.{Judged, and_then}
use Rattle.std.specs.Prelude.{Ok, Option}
use Rattle.records.specs.declared.Header.{Header}
use Rattle.records.specs.Records.{part, old_rule, front, conditions, flags, pre_count, post_count, pre_part, post_part, marking_part}
use Rattle.records.proofs.Headers.{known}
use Rattle.records.proofs.First.{front_ruled, front_plain, rule_ruled, rule_plain}
use Rattle.rules.specs.Rules.{rule_of, conditions_of}
use Rattle.event_rules.specs.EventRules.{event_of}
use Rattle.rules.proofs.Made.{rule_made, rule_none, conditions_made, marking_made}
use Rattle.event_rules.proofs.Made.{event_made}
use Rattle.table.specs.Walk.{kind_is, events_from, judge_of, offset_from}
use Rattle.table.specs.Decoded.{net_if, net_of}
use Rattle.table.specs.Tabled.{Tabled}
use Rattle.encoding.specs.Encoded.{framed, event_payload, records_from, encode, Agree}
use Rattle.table.proofs.Walk.{judge_starts, events_event, events_last}
use Rattle.table.proofs.Decoded.{net_judged}
use Rattle.encoding.proofs.Standing.{number_stands, part_stands, Frame, frame_stands}

-- What is read where the record of event e stands.
pub record EventStands (n : Net) (e : ℕ) (s : List ℕ) (at : ℕ) (r : List ℕ) : Type 0 where
  pub frame : Frame s at 2 (event_payload n e) r
  pub pre_count_is : pre_count s at ≡ length (n.preconditions e)
  pub post_count_is : post_count s at ≡ length (n.postconditions e)
  pub pre_is : words (pre_part s at) ≡ n.preconditions e
  pub post_is : words (post_part s at) ≡ n.postconditions e

pub payload_length : (n : Net) (e : ℕ) → length (event_payload n e) ≡ 4 + 2 * (length (n.preconditions e) + length (n.postconditions e))
unfolding bytes_of
payload_length n e =
    omega (arith, length-append (bytes_of (n.preconditions e)) (bytes_of (n.postconditions e)), length_bytes_of (n.preconditions e), length_bytes_of (n.postconditions e))

event_stands : (n : Net) (e : ℕ) (s : List ℕ) (at : ℕ) (r : List ℕ) → drop at s ≡ framed 2 (event_payload n e) ++ r → EventStands n e s at r
unfolding bytes_of
event_stands n e s at r stands =
    let pre = n.preconditions e in
    let post = n.postconditions e in
    let lists = bytes_of pre ++ bytes_of post ++ r in
    let frame = frame_stands s at 2 (event_payload n e) r stands in
    let (a, e6) = number_stands s (at + 4) (length pre) (length post ∷ []) lists frame.body in
    let (z, e8) = number_stands s (at + 4 + 2) (length post) [] lists e6 in
    let six : at + 4 + 2 ≡ at + 6 = omega arith in
    let eight : at + 4 + 2 + 2 ≡ at + 8 = omega arith in
    let at8 : drop (at + 8) s ≡ bytes_of pre ++ (bytes_of post ++ r) = ap (λ (i : ℕ). drop i s) (sym eight) ∙ e8 ∙ append_assoc (bytes_of pre) (bytes_of post) r in
    let z6 : word_at s (at + 6) ≡ length post = ap (word_at s) (sym six) ∙ z in
    let (x, after) = part_stands s (at + 8) (2 * length pre) (bytes_of pre) (bytes_of post ++ r) at8 (length_bytes_of pre) in
    let (y, rest) = part_stands s (at + 8 + 2 * length pre) (2 * length post) (bytes_of post) r after (length_bytes_of post) in
    let pre_bytes : pre_part s at ≡ bytes_of pre = ap (λ (k : ℕ). part s (at + 8) (2 * k)) a ∙ x in
    let post_bytes : post_part s at ≡ bytes_of post = ap (λ (k : ℕ). part s (at + 8 + 2 * k) (2 * post_count s at)) a ∙ ap (λ (k : ℕ). part s (at + 8 + 2 * length pre) (2 * k)) z6 ∙ y in
    record { frame = frame; pre_count_is = a; post_count_is = z6; pre_is = ap words pre_bytes ∙ words_bytes_of pre; post_is = ap words post_bytes ∙ words_bytes_of post }

-- the test of a list that is read equal to one within the limits
fits_same : (c d : ℕ) (l k : List ℕ) → c ≡ d → l ≡ k → T (fits d k) → fits c l ≡ true
fits_same c d l k p q h = rw (p, q) (is_true (fits d k) h)

count_same : (x y l k : List ℕ) (m : ℕ) → x ≡ y → l ≡ k → count_in y k ≤ m → count_in x l ≤ m
count_same x y l k m p q h = rw (p, q) h

-- the bytes of the conditions say which are persistent
flag_at : (c : ℕ) (m : Marking) (b : ℕ) → b < c → eqb (get_or (bytes c m) b 0) 1 ≡ m b
flag_at c m b h = ap (λ (x : ℕ). eqb x 1) (bytes_at c m b h) ∙ bit_one (m b)

bits_map : (m : Marking) (l : List ℕ) → bits (map (λ b. bit (m b)) l) ≡ true
unfolding bits
bits_map m [] = refl
bits_map m (b ∷ l) = go (m b) (bits_map m l)
  where
    go : (t : Bool) → bits (map (λ b. bit (m b)) l) ≡ true → bits (bit t ∷ map (λ b. bit (m b)) l) ≡ true
    go true e = e
    go false e = e

bits_bytes : (c : ℕ) (m : Marking) → bits (bytes c m) ≡ true
unfolding bytes
bits_bytes c m = bits_map m (count 0 c)

-- What is read from an offset on where the records from event e on stand, k of them before the Marking record.
pub record Written (n : Net) (e k : ℕ) (s : List ℕ) (at left : ℕ) : Type 0 where
  pub judged : events_from left s at ≡ Ok n.events
  pub pre_is : (j : ℕ) → j < k → words (pre_part s (offset_from j s at)) ≡ n.preconditions (e + j)
  pub post_is : (j : ℕ) → j < k → words (post_part s (offset_from j s at)) ≡ n.postconditions (e + j)
  pub start_is : words (marking_part s (offset_from k s at)) ≡ n.start

kind_of : {h k : Option Header} (kind : ℕ) {b : Bool} → h ≡ k → kind_is kind k ≡ b → kind_is kind h ≡ b
kind_of kind p q = ap (kind_is kind) p ∙ q

module _ (n : Net) (t : Tabled n) where
  -- the lists of a net within the limits pass the judge's test
  pub pre_fits : (e : ℕ) → e < n.events → T (fits n.conditions (n.preconditions e))
  pre_fits e h = fits_of n.conditions (n.preconditions e) (t.sound.pre_ascends_lem e h) (λ b. t.sound.pre_in e b h)

  pub post_fits : (e : ℕ) → e < n.events → T (fits n.conditions (n.postconditions e))
  post_fits e h = fits_of n.conditions (n.postconditions e) (t.sound.post_ascends_lem e h) (λ b. t.sound.post_in e b h)

  pub start_fits : T (fits n.conditions n.start)
  start_fits = fits_of n.conditions n.start t.sound.start_ascends t.sound.start_in

module _ (n : Net) (t : Tabled n) (s : List ℕ) (c : conditions s ≡ n.conditions) (f : flags s ≡ bytes n.conditions n.persistent) where
  -- the record of an event is fine
  event_written : (e at : ℕ) (r : List ℕ) → e < n.events → EventStands n e s at r → event_of s at ≡ Ok (at + 4 + word_at s at)
  unfolding count_in reads
  event_written e at r h w =
      let pre = n.preconditions e in
      let long = payload_length n e in
      let kept : count_in (bytes n.conditions n.persistent) pre ≡ length (reads n e)
      = ap (λ (l : List ℕ). length l)
      (keep_same (λ b. eqb (get_or (bytes n.conditions n.persistent) b 0) 1) n.persistent pre
      (λ b i. flag_at n.conditions n.persistent b (t.sound.pre_in e b h i))) in
      let few : count_in (bytes n.conditions n.persistent) pre ≤ 16 = omega (arith, kept, t.few_persistent e h) in
      let one = t.touches e h in
      event_made s at (length (event_payload n e)) w.frame.header (omega arith) (omega (arith, w.pre_count_is, w.post_count_is))
      (fits_same (conditions s) n.conditions (words (pre_part s at)) pre c w.pre_is (pre_fits n t e h))
      (fits_same (conditions s) n.conditions (words (post_part s at)) (n.postconditions e) c w.post_is (post_fits n t e h))
      (omega (arith, w.pre_count_is, w.post_count_is))
      (count_same (flags s) (bytes n.conditions n.persistent) (words (pre_part s at)) pre 16 f w.pre_is few)
      ∙ ap (λ (k : ℕ). Ok (at + 4 + k)) (sym w.frame.len_is)

  -- the Marking record is fine, and the last
  marking_stands : (e at left : ℕ) → e ≡ n.events → left + e ≡ 256 → drop at s ≡ framed 3 (bytes_of n.start) → Written n e 0 s at left
  unfolding offset_from
  marking_stands e at left sum room stands =
      let w = frame_stands s at 3 (bytes_of n.start) [] (stands ∙ sym (append-nil _)) in
      let len = length (bytes_of n.start) in
      let (p, none) = part_stands s (at + 4) len (bytes_of n.start) [] w.body refl in
      let read : words (part s (at + 4) len) ≡ n.start = ap words p ∙ words_bytes_of n.start in
      let even : len % 2 ≡ 0 = ap (λ (k : ℕ). k % 2) (length_bytes_of n.start) ∙ mul-mod_right 2 (length n.start) in
      let made = marking_made s at len w.header even (fits_same (conditions s) n.conditions _ n.start c read (start_fits n t)) (omega (arith, w.total)) in
      let other = kind_of 2 w.header (ne_eqb 3 2 (λ z. absurd (omega arith))) in
      let count : 256 - left ≡ n.events = omega arith in
      record {
        judged = events_last s at left other ∙ ap (λ (j : Judged). and_then j (λ _. Ok (256 - left))) made ∙ ap Ok count;
        pre_is = λ j h. absurd (omega arith);
        post_is = λ j h. absurd (omega arith);
        start_is = ap (λ (k : ℕ). words (part s (at + 4) k)) w.len_is ∙ read;
      }

  -- an Event record, and what is written after it
  event_before : (k e at left : ℕ) → e < n.events → left + e ≡ 256 → EventStands n e s at (records_from n (suc e) k)
      → Written n (suc e) k s (at + 4 + word_at s at) (left - 1) → Written n e (suc k) s at left
  unfolding offset_from
  event_before k e at left h room w after =
      let is = kind_of 2 w.frame.header (eq-eqb 2 2 refl) in
      let few = t.few_events in
      record {
        judged = events_event s at is left (λ z. absurd (omega arith)) ∙ ap (λ (j : Judged). and_then j (events_from (left - 1) s)) (event_written e at _ h w) ∙ after.judged;
        pre_is = elim [ zero ↦ λ p. w.pre_is ∙ ap n.preconditions (omega arith) | suc j ↦ λ p. after.pre_is j (omega arith) ∙ ap n.preconditions (omega arith) ];
        post_is = elim [ zero ↦ λ p. w.post_is ∙ ap n.postconditions (omega arith) | suc j ↦ λ p. after.post_is j (omega arith) ∙ ap n.postconditions (omega arith) ];
        start_is = after.start_is;
      }

  written : (k e at left : ℕ) → e + k ≡ n.events → left + e ≡ 256 → drop at s ≡ records_from n e k → Written n e k s at left
  unfolding records_from
  written zero e at left sum room stands = marking_stands e at left (omega arith) room stands
  written (suc k) e at left sum room stands =
      let w = event_stands n e s at (records_from n (suc e) k) stands in
      let few = t.few_events in
      event_before k e at left (omega arith) room w (written k (suc e) (at + 4 + word_at s at) (left - 1) (omega arith) (omega arith) w.frame.after)

-- The rule of a written table, and where its Conditions record stands.
record Fronts (n : Net) (s : List ℕ) : Type 0 where
  fine : rule_of s ≡ Ok (front s)
  rule_is : old_rule s ≡ n.old 0
  after : drop (front s) s ≡ framed 1 (bytes n.conditions n.persistent) ++ records_from n 0 n.events

-- a Rule record was written, or none
fronts : (n : Net) (s : List ℕ) (b : Bool) → n.old 0 ≡ b
    → s ≡ cond b (framed 6 (1 ∷ [])) [] ++ (framed 1 (bytes n.conditions n.persistent) ++ records_from n 0 n.events) → Fronts n s
fronts n s true rule e =
    let w = frame_stands s 0 6 (1 ∷ []) (framed 1 (bytes n.conditions n.persistent) ++ records_from n 0 n.events) e in
    let six : word_at s 2 ≡ 6 = sym (known s 0 6 1 w.header).kind_is in
    let byte : get_or s 4 0 ≡ 1 = sym (get_or-drop 4 s 0 0) ∙ ap (λ (l : List ℕ). get_or l 0 0) w.body in
    record {
      fine = rule_made s w.header (omega arith) ∙ ap Ok (front_ruled s six);
      rule_is = sym (rule_ruled s six) ∙ eq-eqb (get_or s 4 0) 1 byte ∙ sym rule;
      after = ap (λ (i : ℕ). drop i s) (sym (front_ruled s six) ∙ ap (λ (k : ℕ). 4 + k) (sym w.len_is)) ∙ w.after;
    }
fronts n s false rule e =
    let payload = bytes n.conditions n.persistent in
    let w = frame_stands s 0 1 payload (records_from n 0 n.events) e in
    let one : word_at s 2 ≡ 1 = sym (known s 0 1 (length payload) w.header).kind_is in
    let plain : word_at s 2 ≡ 6 → ⊥ = λ z. absurd (omega arith) in
    record {
      fine = rule_none s plain ∙ ap Ok (front_plain s plain);
      rule_is = sym (rule_plain s plain) ∙ sym rule;
      after = ap (λ (i : ℕ). drop i s) (sym (front_plain s plain)) ∙ e;
    }

-- The first records of a written table, and where the rest stands.
record Opens (n : Net) (s : List ℕ) : Type 0 where
  rule : Fronts n s
  conditions_is : conditions s ≡ n.conditions
  flags_is : flags s ≡ bytes n.conditions n.persistent
  fine : conditions_of s (front s) ≡ Ok (front s + 4 + conditions s)
  after : drop (front s + 4 + conditions s) s ≡ records_from n 0 n.events

opens : (n : Net) → Tabled n → (s : List ℕ) → s ≡ encode n → Opens n s
unfolding encode
opens n t s e =
    let payload = bytes n.conditions n.persistent in
    let rule = fronts n s (n.old 0) refl e in
    let w = frame_stands s (front s) 1 payload (records_from n 0 n.events) rule.after in
    let long = length_bytes n.conditions n.persistent in
    let (p, rest) = part_stands s (front s + 4) (conditions s) payload (records_from n 0 n.events) w.body (sym w.len_is) in
    let whole : part s (front s + 4) (length payload) ≡ payload = ap (part s (front s + 4)) (sym w.len_is) ∙ p in
    let low = t.some_condition in
    let high = t.few_conditions in
    let made = conditions_made s (front s) (length payload) w.header (omega arith) (omega arith) (ap bits whole ∙ bits_bytes n.conditions n.persistent) in
    record { rule = rule; conditions_is = w.len_is ∙ long; flags_is = p; fine = made ∙ ap (λ (k : ℕ). Ok (front s + 4 + k)) (sym w.len_is); after = rest }

-- the written table as a whole
table_written : (n : Net) (t : Tabled n) (s : List ℕ) (o : Opens n s) → Written n 0 n.events s (front s + 4 + conditions s) 256
table_written n t s o = written n t s o.conditions_is o.flags_is n.events 0 (front s + 4 + conditions s) 256 (omega arith) (omega arith) o.after

judged_written : (n : Net) → Tabled n → (s : List ℕ) → Opens n s → judge_of s ≡ Ok n.events
judged_written n t s o =
    judge_starts s
    ∙ ap (λ (j : Judged). and_then j (λ at. and_then (conditions_of s at) (events_from 256 s))) o.rule.fine
    ∙ ap (λ (j : Judged). and_then j (events_from 256 s)) o.fine ∙ (table_written n t s o).judged

agree_written : (n : Net) → Tabled n → (s : List ℕ) → Opens n s → Written n 0 n.events s (front s + 4 + conditions s) 256
    → Agree (net_if (Ok n.events) s) n
agree_written n t s o w = record {
  conditions_agree = o.conditions_is;
  persistent_agree = λ b h. ap (λ (l : List ℕ). eqb (get_or l b 0) 1) o.flags_is ∙ flag_at n.conditions n.persistent b h;
  old_agree = λ b h. o.rule.rule_is ∙ sym (t.one_rule b);
  events_agree = refl;
  pre_agree = λ e h. w.pre_is e h ∙ ap n.preconditions (omega arith);
  post_agree = λ e h. w.post_is e h ∙ ap n.postconditions (omega arith);
  start_agree = w.start_is;
}

-- The judge accepts the table of a net within the limits, and counts its events.
pub encoded_judged : (n : Net) → Tabled n → judge_of (encode n) ≡ Ok n.events
encoded_judged n t = judged_written n t (encode n) (opens n t (encode n) refl)

-- Read again, it is that net.
pub encoded_agrees : (n : Net) → Tabled n → Agree (net_of (encode n)) n
encoded_agrees n t =
    let o = opens n t (encode n) refl in
    rw (net_judged (encode n) (Ok n.events) (encoded_judged n t)) (agree_written n t (encode n) o (table_written n t (encode n) o))
