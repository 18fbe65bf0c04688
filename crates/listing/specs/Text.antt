-- The text of a listing as bytes: numbers, lists and lines.
use Rattle.std.proofs.Math.Option.{Option, none, some}
use Rattle.std.specs.Prelude.{List, [], ◌∷◌, ◌++◌, ℕ}
use Rattle.lists.specs.Lists.{keep, count, spread}
use Rattle.model.specs.Net.{Marking}
use Rattle.spelling.specs.Decimal.{decimal}

-- ---- numbers and lists

-- The bytes of the comma, the dash, the space and the newline (01, Nets to test with: Listing).
abbrev pub comma : ℕ
comma = 44

abbrev pub dash : ℕ
dash = 45

abbrev pub space : ℕ
space = 32

abbrev pub newline : ℕ
newline = 10

-- Numbers with a comma before each (01, Nets to test with: Listing).
unfoldable pub commas : List ℕ → List ℕ
commas l = spread (λ x. comma ∷ decimal x) l

-- Numbers with commas between them, and a dash where there is none (01, Nets to test with: Listing).
unfoldable pub listed : List ℕ → List ℕ
listed [] = dash ∷ []
listed (x ∷ xs) = decimal x ++ commas xs

-- The conditions that hold among c of them from one on (01, Nets to test with: Listing).
unfoldable pub holding : Marking → ℕ → ℕ → List ℕ
holding m from c = keep m (count from c)

-- ---- lines

-- The words that lines begin with or have between their numbers (01, Nets to test with: Listing).
abbrev pub start_word : List ℕ
start_word = 115 ∷ 116 ∷ 97 ∷ 114 ∷ 116 ∷ 32 ∷ []

abbrev pub end_words : List ℕ
end_words = 101 ∷ 110 ∷ 100 ∷ 32 ∷ 117 ∷ 110 ∷ 102 ∷ 111 ∷ 108 ∷ 100 ∷ 101 ∷ 100 ∷ 32 ∷ []

abbrev pub refused_word : List ℕ
refused_word = 114 ∷ 101 ∷ 102 ∷ 117 ∷ 115 ∷ 101 ∷ 100 ∷ 32 ∷ []

abbrev pub at_word : List ℕ
at_word = 32 ∷ 97 ∷ 116 ∷ 32 ∷ []

abbrev pub by_word : List ℕ
by_word = 32 ∷ 98 ∷ 121 ∷ 32 ∷ []

-- The line of the start, by the conditions that hold there (01, Nets to test with: Listing).
unfoldable pub start_line : List ℕ → List ℕ
start_line held = start_word ++ listed held ++ (newline ∷ [])

-- The line of a step: its number, its event, its unfolded event, and the conditions that hold after it (01, Nets to test with: Listing).
unfoldable pub step_line : ℕ → ℕ → ℕ → List ℕ → List ℕ
step_line step event unfolded held =
    decimal step ++ (space ∷ []) ++ decimal event ++ (space ∷ []) ++ decimal unfolded ++ (space ∷ []) ++ listed held ++ (newline ∷ [])

-- The line of the unfolded end (01, Nets to test with: Listing).
unfoldable pub end_line : List ℕ → List ℕ
end_line held = end_words ++ listed held ++ (newline ∷ [])

-- The words for the condition that stopped a step, none where there is none (02, No. 2).
unfoldable pub by_words : Option ℕ → List ℕ
by_words none = []
by_words (some b) = by_word ++ decimal b

-- The line of a refusal, which then stands alone, with the condition that stopped a step (01, Nets to test with: Listing; 02, No. 2).
unfoldable pub refused_line : ℕ → ℕ → Option ℕ → List ℕ
refused_line number place by = refused_word ++ decimal number ++ at_word ++ decimal place ++ by_words by ++ (newline ∷ [])
