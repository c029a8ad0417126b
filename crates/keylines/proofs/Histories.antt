-- Laws of a sheet over its lines: a key's words are those of its newest fit put, by induction over the lines from any sheet.
use Rattle.std.proofs.Common.{◌≡◌, ℕ, Bool, true, ◌⊎◌, List, [], ◌∷◌, ◌++◌, Some, None, Option, sym, refl, ap, ◌∙◌, subst, subst₂, inl, inr, arith}
use Rattle.std.proofs.lemmas.List.Sums.{fold-append}
use Rattle.std.proofs.lemmas.Bool.{cases_Bool, both_ways}
use Rattle.keylines.specs.declared.lines.Pair.{Pair}
use Rattle.keylines.specs.declared.lines.ChannelLine.{ChannelLine}
use Rattle.keylines.specs.declared.lines.ChannelLine.TheVariants.{Put, Erase}
use Rattle.keylines.specs.Pairs.{room_for, words_of}
use Rattle.keylines.specs.Sheets.{Sheet, fits_line, line_pairs, applied, worked_on, sheet_of, empty_sheet}
use Rattle.keylines.specs.Laws.{DistinctKeys, NewestPut, Lawful}
use Rattle.keylines.proofs.Words.{same_or_not, words-present, held_room, put_words, put_others, put_unfit, put_distinct, erase_words, erase_others, erase_distinct}

-- lines from a sheet on that neither erase a key nor put it and are fit
record Quiet {K : Type 0} (alike : K → K → Bool) (c : ℕ) (k : K) (s : Sheet K) (ls : List (ChannelLine K)) : Type 0 where
  kept : (mid rest : List (ChannelLine K)) → ls ≡ mid ++ (Erase k ∷ rest) → ⊥
  newest : (mid rest : List (ChannelLine K)) (v : List ℕ) → ls ≡ mid ++ (Put k v ∷ rest) → fits_line alike c (worked_on alike c s mid).pairs (Put k v) ≡ true → ⊥

-- the newest fit put of a key among lines from a sheet on
record Origin {K : Type 0} (alike : K → K → Bool) (c : ℕ) (k : K) (w : List ℕ) (s : Sheet K) (ls : List (ChannelLine K)) : Type 0 where
  before : List (ChannelLine K)
  after : List (ChannelLine K)
  split : ls ≡ before ++ (Put k w ∷ after)
  fits : fits_line alike c (worked_on alike c s before).pairs (Put k w) ≡ true
  quiet : Quiet alike c k (applied alike c (worked_on alike c s before) (Put k w)) after

module _ {K : Type 0} (alike : K → K → Bool) (exact : (x y : K) → alike x y ≡ true → x ≡ y) (itself : (x : K) → alike x x ≡ true) (c : ℕ) where
  line_distinct : (ps : List (Pair K)) (l : ChannelLine K) → DistinctKeys ps → DistinctKeys (line_pairs alike c ps l)
  line_distinct ps (Put k w) d = put_distinct alike exact itself k w c ps d
  line_distinct ps (Erase k) d = erase_distinct alike exact itself k ps d

  pub worked-distinct : (s : Sheet K) (ls : List (ChannelLine K)) → DistinctKeys s.pairs → DistinctKeys (worked_on alike c s ls).pairs
  worked-distinct s [] d = d
  worked-distinct s (l ∷ ls) d = worked-distinct (applied alike c s l) ls (line_distinct s.pairs l d)

  module _ (k : K) where
    later : (s : Sheet K) (l : ChannelLine K) (ls : List (ChannelLine K)) → Quiet alike c k s (l ∷ ls) → Quiet alike c k (applied alike c s l) ls
    later s l ls q =
        record {
          kept = λ mid rest e. q.kept (l ∷ mid) rest (ap (λ t. l ∷ t) e);
          newest = λ mid rest v e f. q.newest (l ∷ mid) rest v (ap (λ t. l ∷ t) e) f;
        }

    -- quiet lines leave the words of the key
    stays : (w : List ℕ) (s : Sheet K) (ls : List (ChannelLine K)) → DistinctKeys s.pairs → words_of alike k s.pairs ≡ Some w → Quiet alike c k s ls → words_of alike k (worked_on alike c s ls).pairs ≡ Some w
    stays w s [] d e q = e
    stays w s (Put j v ∷ ls) d e q =
        elim (same_or_not alike exact itself j k) [
          | inl f ↦ absurd (q.newest [] ls v (ap (λ x. Put x v ∷ ls) f) (held_room alike exact itself c k s.pairs (words-present alike exact itself k w s.pairs e)))
          | inr n ↦ stays w (applied alike c s (Put j v)) ls (line_distinct s.pairs (Put j v) d) (put_others alike exact itself j v c k s.pairs n ∙ e) (later s (Put j v) ls q)
        ]
    stays w s (Erase j ∷ ls) d e q =
        elim (same_or_not alike exact itself j k) [
          | inl f ↦ absurd (q.kept [] ls (ap (λ x. Erase x ∷ ls) f))
          | inr n ↦ stays w (applied alike c s (Erase j)) ls (line_distinct s.pairs (Erase j) d) (erase_others alike exact itself j k s.pairs d n ∙ e) (later s (Erase j) ls q)
        ]

    -- a line in front of quiet lines that is neither
    quieter : (s : Sheet K) (l : ChannelLine K) (ls : List (ChannelLine K)) → (l ≡ Erase k → ⊥) → ((v : List ℕ) → l ≡ Put k v → ⊥) → Quiet alike c k (applied alike c s l) ls → Quiet alike c k s (l ∷ ls)
    quieter s l ls ne np q =
        record {
          kept = elim [
            | [] ↦ λ rest e. ne (cc)
            | m ∷ mid ↦ λ rest e. q.kept mid rest (cc)
          ];
          newest = elim [
            | [] ↦ λ rest v e f. np v (cc)
            | m ∷ mid ↦ λ rest v e f. let h : m ≡ l = cc in
                q.newest mid rest v (cc) (subst (λ x. fits_line alike c (worked_on alike c (applied alike c s x) mid).pairs (Put k v) ≡ true) h f)
          ];
        }

    no_lines : (s : Sheet K) → Quiet alike c k s []
    no_lines s =
        record {
          kept = elim [ [] ↦ λ rest e. absurd (grind arith) | m ∷ mid ↦ λ rest e. absurd (grind arith) ];
          newest = elim [ [] ↦ λ rest v e f. absurd (grind arith) | m ∷ mid ↦ λ rest v e f. absurd (grind arith) ];
        }

    -- a key's words after a line and quiet lines were there before, or the line put them
    begins : (w : List ℕ) (s : Sheet K) (l : ChannelLine K) (ls : List (ChannelLine K)) → DistinctKeys s.pairs → words_of alike k (line_pairs alike c s.pairs l) ≡ Some w → Quiet alike c k (applied alike c s l) ls
        → ((words_of alike k s.pairs ≡ Some w) × Quiet alike c k s (l ∷ ls)) ⊎ Origin alike c k w s (l ∷ ls)
    begins w s (Put j v) ls d e q =
        elim (same_or_not alike exact itself j k) [
          | inr n ↦ inl (sym (put_others alike exact itself j v c k s.pairs n) ∙ e, quieter s (Put j v) ls (λ f. absurd (grind arith)) (λ u f. n (cc)) q)
          | inl f ↦ elim (cases_Bool (room_for alike c j s.pairs)) [
            | inl room ↦
                let put : words_of alike j (line_pairs alike c s.pairs (Put j v)) ≡ Some v = put_words alike exact itself j v c s.pairs room in
                let now : words_of alike j (line_pairs alike c s.pairs (Put j v)) ≡ Some w = ap (λ x. words_of alike x (line_pairs alike c s.pairs (Put j v))) f ∙ e in
                let g : v ≡ w = cc in
                inr (record {
                  before = [];
                  after = ls;
                  split = ap (λ x. Put x v ∷ ls) f ∙ ap (λ x. Put k x ∷ ls) g;
                  fits = subst (λ x. room_for alike c x s.pairs ≡ true) f room;
                  quiet = subst₂ (λ x y. Quiet alike c k (applied alike c s (Put x y)) ls) f g q;
                })
            | inr full ↦
                let was : words_of alike k s.pairs ≡ Some w = ap (words_of alike k) (sym (put_unfit alike exact itself j v c s.pairs full)) ∙ e in
                absurd (both_ways (room_for alike c j s.pairs) full (subst (λ x. room_for alike c x s.pairs ≡ true) (sym f) (held_room alike exact itself c k s.pairs (words-present alike exact itself k w s.pairs was))))
          ]
        ]
    begins w s (Erase j) ls d e q =
        elim (same_or_not alike exact itself j k) [
          | inr n ↦ inl (sym (erase_others alike exact itself j k s.pairs d n) ∙ e, quieter s (Erase j) ls (λ f. n (cc)) (λ u f. absurd (grind arith)) q)
          | inl f ↦
              let gone : words_of alike j (line_pairs alike c s.pairs (Erase j)) ≡ None = erase_words alike exact itself j s.pairs d in
              let now : words_of alike j (line_pairs alike c s.pairs (Erase j)) ≡ Some w = ap (λ x. words_of alike x (line_pairs alike c s.pairs (Erase j))) f ∙ e in
              absurd (grind arith)
        ]

    comes_from : (w : List ℕ) (s : Sheet K) (ls : List (ChannelLine K)) → DistinctKeys s.pairs → words_of alike k (worked_on alike c s ls).pairs ≡ Some w
        → ((words_of alike k s.pairs ≡ Some w) × Quiet alike c k s ls) ⊎ Origin alike c k w s ls
    comes_from w s [] d e = inl (e, no_lines s)
    comes_from w s (l ∷ ls) d e =
        elim (comes_from w (applied alike c s l) ls (line_distinct s.pairs l d) e) [
          | inl h ↦ begins w s l ls d h.0 h.1
          | inr o ↦ inr (record { before = l ∷ o.before; after = o.after; split = ap (λ t. l ∷ t) o.split; fits = o.fits; quiet = o.quiet })
        ]

  module _ (lines : List (ChannelLine K)) where
    found-words : (k : K) (w : List ℕ) → NewestPut alike c lines k w → words_of alike k (sheet_of alike c lines).pairs ≡ Some w
    found-words k w p =
        let at = sheet_of alike c p.before in
        let d : DistinctKeys at.pairs = worked-distinct empty_sheet p.before tt in
        ap (λ t. words_of alike k (sheet_of alike c t).pairs) p.split
        ∙ ap (λ s. words_of alike k s.pairs) (fold-append (applied alike c) empty_sheet p.before (Put k w ∷ p.after))
        ∙ stays k w (applied alike c at (Put k w)) p.after (line_distinct at.pairs (Put k w) d) (put_words alike exact itself k w c at.pairs p.fits)
        (record {
          kept = p.kept;
          newest = λ mid rest v e f. p.newest mid rest v e
              (subst (λ s. fits_line alike c s.pairs (Put k v) ≡ true) (sym (fold-append (applied alike c) empty_sheet p.before (Put k w ∷ mid))) f);
        })

    newest_put : (k : K) (w : List ℕ) → words_of alike k (sheet_of alike c lines).pairs ≡ Some w → NewestPut alike c lines k w
    newest_put k w e =
        elim (comes_from k w empty_sheet lines tt e) [
          | inl h ↦ let n = h.0 in absurd (grind arith)
          | inr o ↦ record {
            before = o.before;
            after = o.after;
            split = o.split;
            fits = o.fits;
            kept = o.quiet.kept;
            newest = λ mid rest v f g. o.quiet.newest mid rest v f
                (subst (λ s. fits_line alike c s.pairs (Put k v) ≡ true) (fold-append (applied alike c) empty_sheet o.before (Put k w ∷ mid)) g);
          }
        ]

    no_words : (k : K) → ((w : List ℕ) → NewestPut alike c lines k w → ⊥) → words_of alike k (sheet_of alike c lines).pairs ≡ None
    no_words k n = go (words_of alike k (sheet_of alike c lines).pairs) refl
      where
        go : (o : Option (List ℕ)) → words_of alike k (sheet_of alike c lines).pairs ≡ o → o ≡ None
        go None e = refl
        go (Some w) e = absurd (n w (newest_put k w e))

    sheet_lawful : Lawful alike c lines (sheet_of alike c lines)
    sheet_lawful = record { worked = refl; distinct = worked-distinct empty_sheet lines tt; found = found-words; newest = newest_put; absent = no_words }

  -- a sheet that is that of some lines
  pub lawful : (lines : List (ChannelLine K)) (s : Sheet K) → s ≡ sheet_of alike c lines → Lawful alike c lines s
  lawful lines s e = subst (Lawful alike c lines) (sym e) (sheet_lawful lines)

  -- the sheet of some lines, worked on with more
  pub lawful_on : (before lines : List (ChannelLine K)) (s t : Sheet K) → s ≡ sheet_of alike c before → t ≡ worked_on alike c s lines → Lawful alike c (before ++ lines) t
  lawful_on before lines s t e f =
      lawful (before ++ lines) t (f ∙ ap (λ x. worked_on alike c x lines) e ∙ sym (fold-append (applied alike c) empty_sheet before lines))
