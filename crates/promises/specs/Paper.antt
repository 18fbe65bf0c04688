-- What is promised of the calls on the unfolding in the paper's own sets: what its numbers stand for, what its events take and put, what
-- holds at its start, and how it is played.
use Rattle.std.specs.Prelude.{◌≡◌, Bool, true, false, ◌↔◌, List, [], ◌∷◌, ℕ, ◌<◌, T, Ok}
use Rattle.std.proofs.Math.Option.{some}
use Rattle.std.proofs.Math.ListN.{take}
use Rattle.lists.specs.Lists.{ascending, ◌∈◌}
use Rattle.model.specs.Net.{Net, Marking, begin}
use Rattle.model.specs.Runs.{Marker}
use Rattle.model.specs.Unfolding.{UnfoldedCondition, ordinary, copy, reads, picked, basic}
use Rattle.model.specs.Lent.{marking}
use Rattle.model.specs.Paper.{Set, ∅, ◌∪◌, ◌∩◌, ◌∖◌, ◌⊆◌, ◌≐◌, B, E, holding, E', B', pre', post', start'}
use Rattle.refusal.specs.declared.Marker as declared
use Rattle.refusal.specs.Answer.{Judged}
use Rattle.records.specs.Records.{old_rule}
use Rattle.table.specs.Decoded.{net_of}
use Rattle.tally.specs.Having.{list_of}
use Rattle.layout.specs.Unfolds.{unfolding_of}
use Rattle.unfolding.specs.Markers.{meant}
use Rattle.conditions.specs.Origins.{condition_origin_of, origin_value}
use Rattle.condition_numbers.specs.Answers.{ordinary_number, copy_number}
use Rattle.events.specs.declared.Colour.{Colour}
use Rattle.events.specs.Colours.{colour_of}
use Rattle.events.specs.Answers.{origin_of, origin_answer, origin_event, origin_colour}
use Rattle.event_numbers.specs.Answers.{number_of}

-- ---- the numbers

-- What the calls for the counts of the unfolding answer (01, Runs across).
abbrev pub condition_count_of : List ℕ → Judged
condition_count_of s = unfolding_of s (Ok (basic (net_of s)).conditions)

abbrev pub event_count_of : List ℕ → Judged
event_count_of s = unfolding_of s (Ok (basic (net_of s)).events)

-- An unfolded condition stands at a number if `condition_origin` tells it (01, Runs across).
abbrev pub StandsAt : List ℕ → ℕ → Set UnfoldedCondition
StandsAt s i = λ p. origin_value (condition_origin_of s i) ≡ some p

-- The unfolded conditions that stand at the numbers of a set (01, Runs across).
abbrev pub standing : List ℕ → Set ℕ → Set UnfoldedCondition
standing s I = λ p. (i : ℕ) × I i × StandsAt s i p

-- Where c unfolded conditions are counted, the numbers below c are those of B': at each stands one of it and at no other number any, each
-- of it stands at one number only, and that is the number which is given for it (paper, section 6.1; 01, Unfolding and Runs across).
pub record ConditionsNumbered (s : List ℕ) (c : ℕ) : Type 0 where
  pub each : (i : ℕ) → i < c → (p : UnfoldedCondition) × StandsAt s i p
  pub within : (i : ℕ) (p : UnfoldedCondition) → StandsAt s i p → (i < c) × B' (net_of s) p
  pub all : (p : UnfoldedCondition) → B' (net_of s) p → (i : ℕ) × StandsAt s i p
  pub one : (i k : ℕ) (p : UnfoldedCondition) → StandsAt s i p → StandsAt s k p → i ≡ k
  pub ordinary_number_lem : (b i : ℕ) → (ordinary_number s b ≡ Ok i) ↔ StandsAt s i (ordinary b)
  pub copy_number_lem : (b : ℕ) (m : declared.Marker) (u i : ℕ) → (copy_number s b m u ≡ Ok i) ↔ StandsAt s i (copy b (meant m) u)

-- The event that `event_origin` tells of a number (01, Runs across).
abbrev pub event_at : List ℕ → ℕ → ℕ
event_at s j = origin_event (origin_of s j)

-- (b, k) ∈ c, for the colour c that `event_origin` tells of a number (paper, section 6.1; 01, Runs across).
abbrev pub colour_at : List ℕ → ℕ → ℕ → Marker → Type 0
colour_at s j b k = T (picked (reads (net_of s) (event_at s j)) (colour_of (origin_colour (origin_of s j))) b k)

-- An event with a choice of markers stands at a number if `event_origin` tells them (01, Runs across).
pub record ToldAt (s : List ℕ) (j e : ℕ) (c : ℕ → Marker → Type 0) : Type 0 where
  pub count : ℕ
  pub answer : origin_answer (origin_of s j) ≡ Ok count
  pub event : event_at s j ≡ e
  pub same : (b : ℕ) (k : Marker) → colour_at s j b k ↔ c b k

-- Where c unfolded events are counted, the numbers below c are those of E': at each stands one of it and at no other number any, each of it
-- stands at one number only, and that is the number which is given for it (paper, section 6.1; 01, Unfolding and Runs across).
pub record EventsNumbered (s : List ℕ) (c : ℕ) : Type 1 where
  pub each : (j : ℕ) → j < c → ToldAt s j (event_at s j) (colour_at s j)
  pub within : (j e : ℕ) (d : ℕ → Marker → Type 0) → ToldAt s j e d → (j < c) × E' (net_of s) e d
  pub all : (e : ℕ) (d : ℕ → Marker → Type 0) → E' (net_of s) e d → (j : ℕ) × ToldAt s j e d
  pub one : (j i e : ℕ) (d : ℕ → Marker → Type 0) → ToldAt s j e d → ToldAt s i e d → j ≡ i
  pub number : (e : ℕ) (d : Colour) (j : ℕ)
      → (number_of s e d ≡ Ok j) ↔ ((j < c) × (event_at s j ≡ e) × (colour_of (origin_colour (origin_of s j)) ≡ colour_of d))

-- ---- the lists and the start

-- What an unfolded event takes, or puts (paper, section 6.1).
abbrev pub side' : Net → Bool → ℕ → (ℕ → Marker → Type 0) → Set UnfoldedCondition
side' n false = pre' n
side' n true = post' n

-- The numbers that are written for an unfolded event ascend, and at them stands pre'(e, c), or post'(e, c), of the event and colour behind
-- its number; they are the list by which the unfolded net is played (paper, section 6.1; 01, Unfolding).
pub record Listed (s : List ℕ) (post : Bool) (j : ℕ) (l : List ℕ) : Type 0 where
  pub ascends : T (ascending l)
  pub each : (i : ℕ) → i ∈ l → (p : UnfoldedCondition) × StandsAt s i p
  pub stands : standing s (λ i. i ∈ l) ≐ side' (net_of s) post (event_at s j) (colour_at s j)
  pub played : l ≡ list_of (basic (net_of s)) post j

-- At the numbers whose bytes are 1 in what is written of the unfolded start stands that of the paper; it is the marking from which the
-- unfolded net is played (paper, section 6.1, closing words; 01, Unfolding).
pub record Started (s m : List ℕ) : Type 0 where
  pub stands : standing s (holding (marking m)) ≐ start' (net_of s)
  pub played : marking m ≡ begin (basic (net_of s))

-- ---- the token game

-- A rule of firing: from one set of conditions of a net an event leads to another (paper, section 3).
abbrev pub Rule : Type 1
Rule = Net → Set ℕ → ℕ → Set ℕ → Type 0

-- A firing in the unfolded net works exactly if the number is that of an unfolded event that fires by the rule, and what it leaves of the
-- lent marking is what the rule leads to (paper, section 3; 02, No. 4).
pub record FiresBy (F : Rule) (n : Net) (m : List ℕ) (j : ℕ) (answer : Judged) (left : List ℕ) : Type 0 where
  pub worked : (answer ≡ Ok (basic n).conditions) ↔ (E (basic n) j × F (basic n) (holding (marking m)) j (holding (marking left)))
  pub only : (k : Marking) → holding k ⊆ B (basic n) → E (basic n) j → F (basic n) (holding (marking m)) j (holding k) → marking left ≡ k

-- From one marking a list of events leads to another, each firing by the rule after those before it (paper, section 3).
abbrev pub LeadsTo : Rule → Net → Marking → List ℕ → Marking → Type 0
LeadsTo F n m [] k = m ≡ k
LeadsTo F n m (e ∷ r) k = (u : Marking) × (holding u ⊆ B n) × E n e × F n (holding m) e (holding u) × LeadsTo F n u r k

-- A replay in the unfolded net, given room, is accepted exactly if the list leads somewhere by the rule from the unfolded start, and the
-- marking that is written is where it leads to (paper, section 3; 02, No. 4).
pub record ReplaysBy (F : Rule) (n : Net) (w : List ℕ) (answer : Judged) (out : List ℕ) : Type 0 where
  pub worked : (answer ≡ Ok (basic n).conditions) ↔ ((k : Marking) × LeadsTo F (basic n) (begin (basic n)) w k)
  pub reached : (k : Marking) → LeadsTo F (basic n) (begin (basic n)) w k → marking (take (basic n).conditions out) ≡ k

-- ---- the same on sets of unfolded conditions

-- What is no contact if it is taken: all of B' by the paper's rule, by the old one the copies of persistent conditions alone (02, No. 4).
abbrev pub excused : Net → Bool → Set UnfoldedCondition
excused n false = B' n
excused n true = λ p. (b : ℕ) × (k : Marker) × (u : ℕ) × (p ≡ copy b k u)

-- M —(e, c)→ M' for (e, c) in E', where K is what is no contact if it is taken: pre'(e, c) ⊆ M, (M ∖ (pre'(e, c) ∩ K)) ∩ post'(e, c) = ∅,
-- and M' = (M ∖ pre'(e, c)) ∪ post'(e, c) (paper, sections 3 and 6.1; 02, No. 4).
pub record Fires' (n : Net) (K : Set UnfoldedCondition) (e : ℕ) (c : ℕ → Marker → Type 0) (M M' : Set UnfoldedCondition) : Type 0 where
  pub all_hold : pre' n e c ⊆ M
  pub no_contact : (M ∖ (pre' n e c ∩ K)) ∩ post' n e c ≐ ∅
  pub result : M' ≐ (M ∖ pre' n e c) ∪ post' n e c

-- That as a rule for the numbers of the unfolding, by the rule that the table asks for (paper, sections 3 and 6.1; 02, No. 4).
abbrev pub in_sets : List ℕ → Rule
in_sets s n M j M' = Fires' (net_of s) (excused (net_of s) (old_rule s)) (event_at s j) (colour_at s j) (standing s M) (standing s M')
