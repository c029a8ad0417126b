-- The laws of a key sheet, in terms of the lines that were applied to it. Assumes nothing.
--
-- | word         | meaning                                                                              |
-- |--------------|--------------------------------------------------------------------------------------|
-- | Present      | some pair has this key                                                               |
-- | DistinctKeys | no two pairs have one key                                                            |
-- | PutLaw       | a put keeps the keys distinct, gives its key its words, and leaves the others' words |
-- | EraseLaw     | an erase keeps the keys distinct, takes its key away, and leaves the others' words   |
-- | FitAfter     | a line is fit where it comes after these lines                                       |
-- | NewestPut    | among the lines, the newest fit put of a key, with these words, and not erased since |
-- | Lawful       | a sheet is that of the lines, and its keys and words are those that the lines say    |
-- | LawsGoOn     | the sheet of lines, worked on by more, is lawful for all of them                     |
-- | Largest      | the largest key of the pairs, or none where there is no pair                         |
use Rattle.std.specs.Prelude.{◌≡◌, ℕ, Bool, true, false, ◌⊎◌, List, [], ◌∷◌, ◌++◌, Some, None, Option, ◌≢◌}
use Rattle.keylines.specs.declared.lines.Pair.{Pair}
use Rattle.keylines.specs.declared.lines.ChannelLine.{ChannelLine}
use Rattle.keylines.specs.declared.lines.ChannelLine.TheVariants.{Put, Erase}
use Rattle.keylines.specs.Pairs.{words_of}
use Rattle.keylines.specs.Sheets.{Sheet, fits_line, sheet_of}

abbrev pub Present : {K : Type 0} → K → List (Pair K) → Type 0
Present k [] = ⊥
Present k (p ∷ ps) = (p.key ≡ k) ⊎ Present k ps

abbrev pub DistinctKeys : {K : Type 0} → List (Pair K) → Type 0
DistinctKeys [] = Unit {0}
DistinctKeys (p ∷ ps) = (Present p.key ps → ⊥) × DistinctKeys ps

pub record PutLaw {K : Type 0} (alike : K → K → Bool) (k : K) (w : List ℕ) (fits : Bool) (old new : List (Pair K)) : Type 0 where
  pub distinct : DistinctKeys old → DistinctKeys new
  pub words : fits ≡ true → words_of alike k new ≡ Some w
  pub others : (q : K) → (k ≢ q) → words_of alike q new ≡ words_of alike q old

-- in a table of distinct keys
pub record EraseLaw {K : Type 0} (alike : K → K → Bool) (k : K) (old new : List (Pair K)) : Type 0 where
  pub distinct : DistinctKeys old → DistinctKeys new
  pub words : DistinctKeys old → words_of alike k new ≡ None
  pub others : DistinctKeys old → (q : K) → (k ≢ q) → words_of alike q new ≡ words_of alike q old

abbrev pub FitAfter : {K : Type 0} → (K → K → Bool) → ℕ → List (ChannelLine K) → ChannelLine K → Type 0
FitAfter alike c before l = fits_line alike c (sheet_of alike c before).pairs l ≡ true

-- the lines before it and after it; it was fit; no line after it erases the key, and none is a fit put of the key
pub record NewestPut {K : Type 0} (alike : K → K → Bool) (c : ℕ) (lines : List (ChannelLine K)) (k : K) (w : List ℕ) : Type 0 where
  pub before : List (ChannelLine K)
  pub after : List (ChannelLine K)
  pub split : lines ≡ before ++ (Put k w ∷ after)
  pub fits : FitAfter alike c before (Put k w)
  pub kept : (mid rest : List (ChannelLine K)) → after ≢ mid ++ (Erase k ∷ rest)
  pub newest : (mid rest : List (ChannelLine K)) (v : List ℕ) → after ≡ mid ++ (Put k v ∷ rest) → FitAfter alike c (before ++ (Put k w ∷ mid)) (Put k v) → ⊥

-- a key has words exactly where there is such a put, and they are the put's; it has none exactly where there is none
pub record Lawful {K : Type 0} (alike : K → K → Bool) (c : ℕ) (lines : List (ChannelLine K)) (s : Sheet K) : Type 0 where
  pub worked : s ≡ sheet_of alike c lines
  pub distinct : DistinctKeys s.pairs
  pub found : (k : K) (w : List ℕ) → NewestPut alike c lines k w → words_of alike k s.pairs ≡ Some w
  pub newest : (k : K) (w : List ℕ) → words_of alike k s.pairs ≡ Some w → NewestPut alike c lines k w
  pub absent : (k : K) → ((w : List ℕ) → NewestPut alike c lines k w → ⊥) → words_of alike k s.pairs ≡ None

abbrev pub LawsGoOn : {K : Type 0} → (K → K → Bool) → ℕ → Sheet K → List (ChannelLine K) → Sheet K → Type 0
LawsGoOn {K} alike c s lines t = (before : List (ChannelLine K)) → s ≡ sheet_of alike c before → Lawful alike c (before ++ lines) t

-- no answer exactly where there is no pair; an answer is the key of a pair, and no pair's key is above it
pub record Largest {K : Type 0} (above : K → K → Bool) (ps : List (Pair K)) (r : Option K) : Type 0 where
  pub none : r ≡ None → ps ≡ []
  pub empty : ps ≡ [] → r ≡ None
  pub present : (k : K) → r ≡ Some k → Present k ps
  pub top : (k q : K) → r ≡ Some k → Present q ps → above q k ≡ false
