-- The segment of one condition by the numbers that are kept of a table and an event.
use mathlib.Core.Path.{◌≡◌, sym, ◌∙◌}
use mathlib.Core.Bool.{Bool, true, false, cond}
use mathlib.Core.List.{List}
use Prim.Native.Nat.{ℕ, ◌+◌, ◌*◌, ◌≤◌, ◌<◌}
use lib.ListN.{length, get_or}
use native.Mathlib.Omega.{arith}
use Rattle.lists.specs.Lists.{mem, sum}
use Rattle.lists.proofs.Bools.{T_of}
use Rattle.words.specs.Words.{words}
use Rattle.model.specs.Unfolding.{markers, users}
use Rattle.model.specs.Numbering.{width, condition_count}
use Rattle.table.specs.Decoded.{net_of}
use Rattle.tally.specs.Having.{one_at, list_of, having}
use Rattle.colours.specs.Colours.{flagged}
use Rattle.layout.proofs.Counts.{sum_part}
use Rattle.segments.specs.Ranges.{within, alone_of, joined_of, event_at, added, size_if, Known}
use Rattle.segments.proofs.Copied.{first_most, unread_added, taken_most, read_added, ordinary_added}

module _ {s us bs mk uz ch pre members : List ℕ} {post : Bool} {e rest : ℕ} (k : Known s us bs mk uz ch pre members post e rest) (b : ℕ) (h : b < (net_of s).conditions) where
  low : b < 256
  low = omega (arith, k.limits.few_conditions)

  pub base_is : get_or bs b 0 ≡ sum (width (net_of s)) b
  base_is = k.sums.at b (omega arith)

  pub users_are : get_or us b 0 ≡ length (users (net_of s) b)
  unfolding users
  users_are = k.used.at b low ∙ omega arith

  pub mark_is : get_or mk b 0 ≡ 1 + length (having (net_of s) true b e)
  mark_is = k.own_marks.at b low

  pub use_is : get_or uz b 0 ≡ length (having (net_of s) false b e)
  use_is = k.own_uses.at b low ∙ omega arith

  within_limit : sum (width (net_of s)) b + width (net_of s) b ≤ 65535
  unfolding condition_count
  within_limit = omega (arith, sum_part (width (net_of s)) (net_of s).conditions b h, k.few)

  size_is : (t : Bool) (w : ℕ) → size_if t (one_at members b) w ≡ size_if t (mem b (list_of (net_of s) post e)) w
  size_is t w = rw (k.listing b)

  -- the numbers that are read for a persistent condition
  module _ (q : flagged s b ≡ true) (base wide mark size : ℕ) (ib : base ≡ get_or bs b 0) (iw : wide ≡ get_or us b 0) (im : mark ≡ get_or mk b 0) (iz : size ≡ size_if post (one_at members b) wide) where
    lasts : (net_of s).persistent b ≡ true
    lasts = sym (k.flags b) ∙ q

    copies_fit : sum (width (net_of s)) b + length (markers (net_of s) b) * length (users (net_of s) b) ≤ 65535
    unfolding width
    copies_fit = rw lasts at within_limit

    ib₂ : base ≡ sum (width (net_of s)) b
    ib₂ = ib ∙ base_is

    iw₂ : wide ≡ length (users (net_of s) b)
    iw₂ = iw ∙ users_are

    im₂ : mark ≡ 1 + length (having (net_of s) true b e)
    im₂ = im ∙ mark_is

    iz₂ : size ≡ size_if post (mem b (list_of (net_of s) post e)) (length (users (net_of s) b))
    iz₂ = iz ∙ size_is post wide ∙ rw iw₂

    pub first_fits : base + mark * wide + size ≤ 65535
    first_fits = rw (ib₂, im₂, iz₂, iw₂) (omega (arith, copies_fit, first_most (net_of s) b lasts post e k.event (event_at (net_of s) e rest).colour))

    pub unread_segment : mem b (words pre) ≡ false → within (alone_of (base + mark * wide) size) ≡ added (net_of s) post (event_at (net_of s) e rest) b
    unread_segment f =
        rw (ib₂, im₂, iz₂, iw₂) (unread_added (net_of s) b lasts post e k.event (event_at (net_of s) e rest).colour (rw k.reading at f))

    module _ (f : mem b (words pre) ≡ true) (place own : ℕ) (ip : place ≡ get_or ch b 0) (io : own ≡ get_or uz b 0) where
      reads : mem b ((net_of s).preconditions e) ≡ true
      reads = rw k.reading at f

      io₂ : own ≡ length (having (net_of s) false b e)
      io₂ = io ∙ use_is

      pub taken_fits : base + place * wide + own ≤ 65535
      taken_fits =
          let chose = k.places b (T_of (mem b ((net_of s).preconditions e)) reads) lasts in
          rw (ib₂, ip, iw₂, io₂)
          (omega (arith, copies_fit, taken_most (net_of s) b lasts post e k.event (event_at (net_of s) e rest).colour reads (get_or ch b 0) chose.0 chose.1))

      pub read_segment : within (joined_of (base + place * wide + own) (base + mark * wide) size) ≡ added (net_of s) post (event_at (net_of s) e rest) b
      read_segment =
          let chose = k.places b (T_of (mem b ((net_of s).preconditions e)) reads) lasts in
          rw (ib₂, ip, iw₂, io₂, im₂, iz₂)
          (read_added (net_of s) b lasts post e k.event (event_at (net_of s) e rest).colour reads (get_or ch b 0) chose.0 chose.1)

  -- and for an ordinary one
  module _ (q : flagged s b ≡ false) (base size : ℕ) (ib : base ≡ get_or bs b 0) (iz : size ≡ size_if true (one_at members b) 1) where
    plain : (net_of s).persistent b ≡ false
    plain = sym (k.flags b) ∙ q

    pub ordinary_fits : base + size ≤ 65536
    ordinary_fits = rw (ib, base_is, iz) (omega (arith, within_limit, small (one_at members b)))
      where
        small : (t : Bool) → cond t 1 0 ≤ 1
        small true = omega arith
        small false = omega arith

    pub ordinary_segment : within (alone_of base size) ≡ added (net_of s) post (event_at (net_of s) e rest) b
    ordinary_segment = rw (ib, base_is, iz, size_is true 1) (ordinary_added (net_of s) b plain post (event_at (net_of s) e rest))
