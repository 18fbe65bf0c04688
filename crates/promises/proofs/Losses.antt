-- Where the call that tells the lossy events wrote only zeros, nothing of the table's runs is lost: over the definitions, and over the
-- contracts of the call and of the one for C.
use mathlib.Core.Path.{◌≡◌, refl, sym, ap, ◌∙◌, subst}
use mathlib.Core.Bool.{Bool, true, false}
use mathlib.Core.Logic.{inl, inr}
use mathlib.Core.Option.{none}
use mathlib.Core.List.{List, [], ◌∷◌, ◌++◌}
use Prim.Native.Nat.{ℕ, ◌≤◌}
use native.Mathlib.Omega.{arith}
use lib.Dec.{T}
use lib.ListN.{length, get_or, drop, get_or-append}
use Rattle.lists.specs.Lists.{mem}
use Rattle.lists.proofs.Bools.{and_left}
use Rattle.model.specs.Net.{Net, Marking, begin, fire}
use Rattle.model.specs.Runs.{end, opening, replay}
use Rattle.model.specs.Lent.{bit, bytes}
use Rattle.model.specs.Across.{of_table, stuck, too_long, unfolding_refused}
use Rattle.model.proofs.Lent.{length_bytes, bytes_at}
use Rattle.model.proofs.Answers.{stuck_none, short_length, length_short}
use Rattle.model.proofs.Own.{none_again}
use Rattle.model.proofs.Demands.{lift_exactly, lift_lifts, lift_length}
use Rattle.refusal.specs.Answer.{Judged, fitting, written}
use Rattle.std.specs.Prelude.{Ok, Err}
use Rattle.refusal.proofs.Chain.{then_fine, fitting_fine}
use Rattle.table.specs.Walk.{judge_of}
use Rattle.table.specs.Decoded.{net_of}
use Rattle.replay.specs.Calls.{played_of, replay_of, end_of}
use Rattle.outward.specs.declared.Answer.{Answer}
use Rattle.outward.specs.Told.{answer_of}
use Rattle.losses.specs.Losses.{lossy}
use Rattle.losses.specs.Saved.{Lossless, LeavesOut}
use Rattle.losses.specs.Calls.{lossy_of, lossy_into}
use Rattle.losses.proofs.Saved.{run_saved}
use Rattle.promises.specs.Refused.{of_lossy, listed, named}
use Rattle.promises.specs.Losses.{NoneLossy, NothingLost, KeptLifts}
use Rattle.promises.proofs.Refused.{lossy_listed}
use Rattle.promises.proofs.Across.{lift_given, accepted}
use Rattle.losses.proofs.lossy.Reads as lossy-call
use Rattle.ffi.proofs.dovetrellis_lossy.Reads as dovetrellis-lossy

-- ---- what zeros tell

zero_bit : (t : Bool) → bit t ≡ 0 → t ≡ false
zero_bit true e = absurd (omega arith)
zero_bit false e = refl

-- a call that was worked had room for its bytes, and wrote them to the front
pub lossless : (s out : List ℕ) (c : ℕ) → lossy_of s (length out) ≡ Ok c → NoneLossy c (lossy_into s out) → Lossless (net_of s)
unfolding lossy_of lossy_into
lossless s out c h zeros e below =
    let (n, j, f) = then_fine (judge_of s) (λ n. fitting (net_of s).events (length out)) c h in
    let all = (fitting_fine (net_of s).events (length out) c f).0 in
    let told = bytes (net_of s).events (lossy (net_of s)) in
    let front = get_or-append told (drop (length told) out) 0 e (omega (arith, below, length_bytes (net_of s).events (lossy (net_of s)))) in
    let left : get_or (lossy_into s out) e 0 ≡ get_or (told ++ drop (length told) out) e 0 = ap (λ (x : Judged). get_or (written x told out) e 0) h in
    let byte = sym (bytes_at (net_of s).events (lossy (net_of s)) e below) ∙ sym front ∙ sym left in
    zero_bit (lossy (net_of s) e) (byte ∙ zeros e (omega (arith, below, all)))

-- Nothing is lost of a table whose lossy events were told to be none.
pub nothing_lost : (s out : List ℕ) (c : ℕ) → lossy_of s (length out) ≡ Ok c → NoneLossy c (lossy_into s out) → NothingLost s
nothing_lost s out c h zeros r t = run_saved (net_of s) (lossless s out c h zeros) r t

-- ---- the same of the calls

pub lossy_nothing_lost : (κs : _) (a : _) (r : _) (x : _) → lossy-call.Learnt κs a r x
    → (c : ℕ) → r ≡ Ok c → NoneLossy c x.1.0.now → NothingLost a.0.now
lossy_nothing_lost κs a r x h c fine zeros =
    nothing_lost a.0.now a.1.0.now c (sym h.0 ∙ fine) (subst (NoneLossy c) h.1 zeros)

-- an answer for C with number 0 is a fine one
told_fine : (a : Judged) (r : Answer) → r ≡ answer_of a → T (listed of_lossy a) → r.number ≡ 0 → (c : ℕ) × (a ≡ Ok c)
unfolding answer_of
told_fine (Ok c) r e t z = (c, refl)
told_fine (Err x) r e t z =
    let zero : x.number ≡ 0 = sym (ap (λ (y : Answer). y.number) e) ∙ z in
    absurd (subst (λ (k : ℕ). T (mem k of_lossy)) zero (and_left (mem x.number of_lossy) (named x) t))

pub dovetrellis_lossy_nothing_lost : (κs : _) (a : _) (r : _) (x : _) → dovetrellis-lossy.Learnt κs a r x
    → r.number ≡ 0 → NoneLossy (net_of a.0.now).events x.1.0.now → NothingLost a.0.now
unfolding lossy_of
dovetrellis_lossy_nothing_lost κs a r x h zero zeros =
    let s = a.0.now in
    let room = length a.1.0.now in
    let (c, fine) = told_fine (lossy_of s room) r h.0 (lossy_listed s room) zero in
    let (n, j, f) = then_fine (judge_of s) (λ n. fitting (net_of s).events room) c fine in
    let all = (fitting_fine (net_of s).events room c f).0 in
    let told = subst (λ (k : ℕ). NoneLossy k x.1.0.now) (sym all) zeros in
    nothing_lost s a.1.0.now c fine (subst (NoneLossy c) h.1 told)

-- ---- with replay and lift

kept_few : (n : Net) (m : Marking) (r kept : List ℕ) → LeavesOut n m r kept → length kept ≤ length r
kept_few n m [] kept q = omega (arith, ap length q)
kept_few n m (e ∷ r) kept (inl (same, q)) = omega (arith, kept_few n m r kept q)
kept_few n m (e ∷ r) kept (inr (rest, first, q)) = omega (arith, kept_few n (fire n m e) r rest q, ap length first)

-- What is kept of a run that replay accepts is replayed alike, and lifts.
pub kept_lifts : (s out : List ℕ) (c : ℕ) → lossy_of s (length out) ≡ Ok c → NoneLossy c (lossy_into s out)
    → (r end_out : List ℕ) (d : ℕ) → replay_of s r (length end_out) ≡ Ok d → unfolding_refused (net_of s) ≡ none → KeptLifts s r end_out
unfolding replay_of end_of played_of opening
kept_lifts s out c h zeros r end_out d played unfolds =
    let (n, j, f) = then_fine (judge_of s) _ d played in
    let (short, t) = accepted (net_of s) r (length end_out) d f in
    let saved = nothing_lost s out c h zeros r t in
    let kept = saved.trimmed.kept in
    let few = kept_few (net_of s) (begin (net_of s)) r kept saved.trimmed.leaves_out in
    let most = short_length r short in
    let brief : too_long kept ≡ none = length_short kept (omega (arith, few, most)) in
    let old : stuck of_table (replay (net_of s) 0 (opening (net_of s)) r) ≡ none = stuck_none of_table (net_of s) 0 (opening (net_of s)) r t in
    let new : stuck of_table (replay (net_of s) 0 (opening (net_of s)) kept) ≡ none
    = stuck_none of_table (net_of s) 0 (opening (net_of s)) kept saved.trimmed.run in
    let same : replay_of s kept (length end_out) ≡ replay_of s r (length end_out) = simp (brief, short, old, new) in
    let (w, lifted) = (lift_exactly (net_of s) kept brief unfolds).1 (saved.trimmed.run, none_again (net_of s) kept saved.trimmed.no_repeat) in
    let long = lift_length (net_of s) kept w (lift_lifts (net_of s) kept w lifted) in
    record {
      saved = saved;
      few = few;
      answer = same;
      same_end = ap (λ (x : Judged). written x (bytes (net_of s).conditions (end (net_of s) (begin (net_of s)) kept)) end_out) same
          ∙ ap (λ (m : Marking). written (replay_of s r (length end_out)) (bytes (net_of s).conditions m) end_out) saved.trimmed.same_end;
      lifts = λ room fits. lift_given s n j kept w room lifted (omega (arith, fits, long)) ∙ ap Ok long;
    }
