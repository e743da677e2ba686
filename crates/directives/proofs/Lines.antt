-- A directive's line: its name, and what follows the token.
use Rattle.std.specs.Prelude.{Result, Ok, Err}
use Prim.Native.Nat.{ℕ}
use mathlib.Core.Bool.{Bool, false, true}
use mathlib.Core.List.{List}
use mathlib.Core.Path.{◌∙◌, ◌≡◌, ap, refl, sym}
use native.Mathlib.Omega.{arith}
use lib.ListN.{drop}
use lib.Seq.{sets}
use Rattle.yaml_text.specs.declared.Mark.{Mark}
use Rattle.yaml_text.specs.declared.Refusal.{Refusal}
use Rattle.yaml_text.specs.All.{all_any, all_bind, all_got, all_need, holds}
use Rattle.yaml_text.specs.Class.{is_blank_or_breakz, is_breakz, is_non_space, peek}
use Rattle.yaml_text.specs.Mark.{along, look, skip_break, run_of}
use Rattle.yaml_text.specs.Mark as definition
use Rattle.yaml_text.specs.Refusal.{Read, ◌>>=◌, got, need, refused}
use Rattle.yaml_text.specs.Utf8.{chars}
use Rattle.yaml_lexeme.specs.Directive.{directive_of, scan_directive}
use Rattle.yaml_lexeme.specs.Gap.{blanks_and_comment}
use Rattle.yaml_lexeme.specs.Record.{laid_token}
use Rattle.yaml_lexeme.specs.Token as tokens
use Rattle.chars.specs.declared.mark.Place.{Place}
use Rattle.chars.specs.Parts.{Spans}
use Rattle.chars.specs.View.{Moves, view}
use Rattle.reading.specs.declared.Lexeme.{Lexeme}
use Rattle.reading.specs.Answers.{Reads, TextsIn, behind_first, first_char, reads_refused}
use Rattle.reading.specs.Reading.{Behind, Indicated, ReachesAs, Seen, first_at, laid_read, seen}
use Rattle.gaps.specs.Answers.{reached_refused, reached_to}
use Rattle.runs.specs.RunLaws.{span_none, span_some}
use Rattle.directives.specs.Line.{LineEnds, line_rest}
use Rattle.directives.specs.Name.{name_in}

-- the line's rest, as code reads it
module _ {text : List ℕ} (start : Mark) {l : Lexeme} where
  pub ends_refused : {f : Refusal} → ReachesAs text l.next (Err f) (blanks_and_comment (view text l.next)) → LineEnds text start l (Err f)
  unfolding line_rest seen ◌>>=◌
  ends_refused w = record { same = sym (rw (reached_refused w refl)); ahead = tt }

  module _ {e : Place} {c : ℕ} (w : ReachesAs text l.next (Ok e) (blanks_and_comment (view text l.next))) (k : c ≡ peek (chars (drop e.at text)) 0) where
    pub ends_open : is_breakz c ≡ false → LineEnds text start l (Err (record { number = 15; mark = start }))
    unfolding line_rest seen ◌>>=◌ need
    ends_open z = record { same = sym (rw ((reached_to w refl).0, ← k, z)); ahead = tt }

    pub ends_past : {q : Place} → Behind text l → is_breakz c ≡ true → Moves text e q (skip_break (view text e))
        → LineEnds text start l (Ok (record { token = l.token; next = q }))
    unfolding line_rest seen ◌>>=◌ need
    ends_past b z m =
        let o = (reached_to w refl).2 in
        record {
          same = sym (rw ((reached_to w refl).0, ← k, z, ← m.same));
          ahead = record { stands = m.stands; some = omega (arith, m.onward, b.some); size = omega (arith, m.onward, b.size) };
        }

-- as the definition does
abbrev lined : Mark → tokens.Lexeme → Read tokens.Lexeme
lined start l = do
  e ← blanks_and_comment l.place
  _ ← need (is_breakz (look e)) 15 start
  got (record { token = l.token; place = skip_break e })

-- both are the same
is_lined : (start : Mark) (used : ℕ) (l : tokens.Lexeme)
    → line_rest start (record { token = laid_token used l.token; place = l.place }) ≡ laid_read used (lined start l)
unfolding line_rest laid_read ◌>>=◌ need
is_lined start used l = by_rest (blanks_and_comment l.place)
  where
    by_break : (e : definition.Place) (b : Bool)
        → (need b 15 start >>= λ _. got (record { token = laid_token used l.token; place = skip_break e }))
        ≡ laid_read used (need b 15 start >>= λ _. got (record { token = l.token; place = skip_break e }))
    by_break e true = refl
    by_break e false = refl

    by_rest : (x : Read definition.Place)
        → (x >>= λ e. need (is_breakz (look e)) 15 start >>= λ _. got (record { token = laid_token used l.token; place = skip_break e }))
        ≡ laid_read used (x >>= λ e. need (is_breakz (look e)) 15 start >>= λ _. got (record { token = l.token; place = skip_break e }))
    by_rest (got e) = by_break e (is_breakz (look e))
    by_rest (refused n m) = refl

-- a token keeps its texts
keeps_texts : (start : Mark) (before : List ℕ) {mid : List ℕ} (l : tokens.Lexeme) → mid ≡ sets before 0 (tokens.token_bytes l.token) → TextsIn before mid (lined start l)
keeps_texts start before l e = all_bind _ (all_any (blanks_and_comment l.place)) (λ p _. all_need _ 15 start _ (holds e))

module _ {text before mid : List ℕ} {used : ℕ} where
  -- behind a token, as it was read
  line_reads : (start : Mark) {r : Result Lexeme Refusal} {y : Lexeme} (d : Read tokens.Lexeme) → Reads text before mid used (Ok y) d
      → LineEnds text start y r → Reads text before mid used r (d >>= lined start)
  unfolding seen laid_read ◌>>=◌
  line_reads start {y = y} (got l) h n =
      let s = h.answers.same in
      let p : ◌≡◌ {A = Seen} (record { token = y.token; place = view text y.next }) (record { token = laid_token used l.token; place = l.place }) = cc in
      record {
        answers = record { same = n.same ∙ ap (line_rest start) p ∙ is_lined start used l; ahead = n.ahead };
        texts = keeps_texts start before l (all_got h.texts refl);
        kept = h.kept;
      }
  line_reads start (refused n m) h k = cc h.answers.same

  line_refused : (start : Mark) {f : Refusal} (d : Read tokens.Lexeme) → Reads text before mid used (Err f) d → Reads text before mid used (Err f) (d >>= lined start)
  unfolding seen laid_read ◌>>=◌
  line_refused start (got l) h = cc h.answers.same
  line_refused start (refused n m) h = h

-- the whole
module _ {text : List ℕ} {start : Mark} {used : ℕ} {p : Place} (h : Indicated text start used) (s : Spans text (behind_first start) p (name_in text start)) where
  named : run_of is_non_space (along start) (drop 1 (chars (drop 0 text))) ≡ record { text = (name_in text start).text; place = view text p }
  named = rw (first_char h).next (ap (λ (q : definition.Place). record { text = (name_in text start).text; place = q }) (sym s.moves.same))

  pub directive_none : {before : List ℕ} → p.at ≡ 1
      → Reads text before before used (Err (record { number = 10; mark = along start })) (scan_directive (view text (first_at start)))
  unfolding scan_directive ◌>>=◌ need
  directive_none z = reads_refused (rw (named, span_none s z)) refl

  module _ {c : ℕ} (z : p.at ≡ 1 → ⊥) (k : c ≡ peek (chars (drop p.at text)) 0) where
    pub directive_stopped : {before : List ℕ} → is_blank_or_breakz c ≡ false
        → Reads text before before used (Err (record { number = 11; mark = along start })) (scan_directive (view text (first_at start)))
    unfolding scan_directive ◌>>=◌ need
    directive_stopped e = reads_refused (rw (named, span_some s z, ← k, e)) refl

    module _ (e : is_blank_or_breakz c ≡ true) where
      turn : scan_directive (view text (first_at start)) ≡ directive_of start (name_in text start).text (view text p) >>= lined start
      unfolding scan_directive ◌>>=◌ need
      turn = rw (named, span_some s z, ← k, e)

      module _ {before mid : List ℕ} where
        pub directive_refused : {f : Refusal} → Reads text before mid used (Err f) (directive_of start (name_in text start).text (view text p))
            → Reads text before mid used (Err f) (scan_directive (view text (first_at start)))
        directive_refused d = rw turn (line_refused start _ d)

        pub directive_got : {l : Lexeme} {r : Result Lexeme Refusal} → Reads text before mid used (Ok l) (directive_of start (name_in text start).text (view text p))
            → LineEnds text start l r → Reads text before mid used r (scan_directive (view text (first_at start)))
        directive_got d n = rw turn (line_reads start _ d n)
