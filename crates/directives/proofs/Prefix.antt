-- The prefix of %TAG, and the directive.
use Rattle.std.specs.Prelude.{Result, Ok, Err}
use Prim.Native.Nat.{◌%◌, ◌+◌, ◌-◌, ◌^◌, ◌≤◌, ℕ}
use mathlib.Core.Bool.{◌||◌, false, true}
use mathlib.Core.List.{List}
use mathlib.Core.Path.{◌∙◌, ◌≡◌, ap, refl, sym}
use native.Mathlib.Omega.{arith}
use lib.Dec.{eqb}
use lib.ListN.{drop, get_or, length}
use Rattle.yaml_text.specs.declared.Mark.{Mark}
use Rattle.yaml_text.specs.declared.Refusal.{Refusal}
use Rattle.yaml_text.specs.All.{not_read}
use Rattle.yaml_text.specs.Char.{'!'}
use Rattle.yaml_text.specs.Class.{is_blank_or_breakz, is_tag, is_uri, peek}
use Rattle.yaml_text.specs.Mark.{look}
use Rattle.yaml_text.specs.Mark as definition
use Rattle.yaml_text.specs.Refusal.{Read, ◌>>=◌, got, need, refused}
use Rattle.yaml_text.specs.Test.{by_test}
use Rattle.yaml_text.specs.Utf8.{chars}
use Rattle.yaml_lexeme.specs.declared.Kind.TheVariants as kind
use Rattle.yaml_lexeme.specs.declared.Text.{Text}
use Rattle.yaml_lexeme.specs.Directive.{blanks_at, tag_directive, tag_handle, tag_prefix}
use Rattle.yaml_lexeme.specs.Record.{laid}
use Rattle.yaml_lexeme.specs.Tag.{uri_at}
use Rattle.yaml_lexeme.specs.Token.{TagDirective, kind_bytes}
use Rattle.chars.specs.declared.mark.Place.{Place}
use Rattle.chars.specs.Ascii.{Ascii, ◌or◌, one, tag_ascii}
use Rattle.chars.specs.Bytes.{ascii_at}
use Rattle.chars.specs.Parts.{Spans}
use Rattle.chars.specs.View.{Moves, view}
use Rattle.reading.specs.declared.Lexeme.{Lexeme}
use Rattle.reading.specs.declared.Written.{Written}
use Rattle.reading.specs.Answers.{Reads, reads_refused}
use Rattle.reading.specs.Reading.{ReaderGiven, seen, text_size}
use Rattle.runs.specs.Run.{Writes}
use Rattle.runs.specs.RunLaws.{Ran, ran, run_refused}
use Rattle.directives.specs.Front.{Fronts, HoldsTexts, held_texts}
use Rattle.directives.specs.Tag.{Handles, handle, no_handle, prefix_run, tag_of}
use Rattle.directives.proofs.Texts.{Pairs, held_reads, texts_held}

-- its first character
begins : Ascii (λ c. eqb c '!' || is_tag c)
begins = one '!' tt or tag_ascii

module _ (start : Mark) {text before after : List ℕ} {p : Place} {n c : ℕ} {r : Result Written Refusal} (b : c ≡ get_or text p.at 0) where
  pub prefix_some : (eqb c '!' || is_tag c) ≡ true → Writes text before after p n r (uri_at is_uri start (view text p))
      → Writes text before after p n r (tag_prefix start (view text p))
  unfolding tag_prefix ◌>>=◌ need
  prefix_some e w = rw (ascii_at text p.at c b begins ∙ e) w

-- what follows the handle, by what is read of it
module _ (start : Mark) (p : definition.Place) where
  is_refused : {n : ℕ} {m : Mark} → tag_prefix start (blanks_at p) ≡ refused n m → prefix_run start p ≡ refused n m
  unfolding prefix_run ◌>>=◌
  is_refused e = rw e

  is_bad : (eqb (look (blanks_at p)) '!' || is_tag (look (blanks_at p))) ≡ false → prefix_run start p ≡ refused 18 start
  unfolding prefix_run tag_prefix ◌>>=◌ need
  is_bad e = rw e

  module _ {s : definition.Run} (e : tag_prefix start (blanks_at p) ≡ got s) where
    is_followed : is_blank_or_breakz (look s.place) ≡ false → prefix_run start p ≡ refused 19 start
    unfolding prefix_run ◌>>=◌ need
    is_followed f = rw (e, f)

    is_ended : is_blank_or_breakz (look s.place) ≡ true → prefix_run start p ≡ tag_prefix start (blanks_at p)
    unfolding prefix_run ◌>>=◌ need
    is_ended f = rw (e, f)

tag_pairs : Pairs TagDirective kind.TagDirective
unfolding laid kind_bytes text_size
tag_pairs = record { laid_is = λ used t u. refl; bytes_is = λ t u. refl; size_is = λ a b. refl }

-- a refusal
holds_refused : {text before after : List ℕ} {start : Mark} {used n : ℕ} {x : Refusal} {d : Read definition.Run}
    → d ≡ refused x.number x.mark → length after ≡ length before → HoldsTexts kind.TagDirective text before after start used n (Err x) d
unfolding seen held_texts
holds_refused f k = rw f (record { same = refl; bytes = not_read; kept = k; ahead = tt })

-- 18
pub prefix_bad : (start : Mark) {text before : List ℕ} {p q : Place} {n c used : ℕ} → Moves text p q (blanks_at (view text p))
    → c ≡ get_or text q.at 0 → (eqb c '!' || is_tag c) ≡ false
    → HoldsTexts kind.TagDirective text before before start used n (Err (record { number = 18; mark = start })) (prefix_run start (view text p))
prefix_bad start {text} {p = p} {q} {c = c} m b e =
    let k : (eqb (look (blanks_at (view text p))) '!' || is_tag (look (blanks_at (view text p)))) ≡ false = rw (← m.same) (ascii_at text q.at c b begins ∙ e) in
    holds_refused (is_bad start (view text p) k) refl

module _ (start : Mark) {text before after : List ℕ} {p q : Place} {n : ℕ} (m : Moves text p q (blanks_at (view text p))) where
  pub prefix_refused : {x : Refusal} {used : ℕ} → Writes text before after q n (Err x) (tag_prefix start (view text q))
      → HoldsTexts kind.TagDirective text before after start used n (Err x) (prefix_run start (view text p))
  prefix_refused w = holds_refused (is_refused start (view text p) (run_refused (rw m.same at w) refl)) w.kept

  prefix_read : {x : Written} → Writes text before after q n (Ok x) (tag_prefix start (view text q))
      → Ran text before after q n x (tag_prefix start (blanks_at (view text p)))
  prefix_read w = ran (rw m.same at w) refl

  module _ {x : Written} {c : ℕ} (w : Writes text before after q n (Ok x) (tag_prefix start (view text q))) (l : c ≡ peek (chars (drop x.place.at text)) 0) where
    pub prefix_followed : {used : ℕ} → is_blank_or_breakz c ≡ false
        → HoldsTexts kind.TagDirective text before after start used n (Err (record { number = 19; mark = start })) (prefix_run start (view text p))
    prefix_followed y = holds_refused (is_followed start (view text p) (prefix_read w).is (rw (← l) y)) w.kept

    pub prefix_ended : {a b : Text} {y used : ℕ} → ReaderGiven text start used → n ≤ p.at → 1 ≤ p.at → is_blank_or_breakz c ≡ true
        → a ≡ record { at = used; len = n % 2 ^ 32 } → y ≡ n % 2 ^ 32 → b ≡ record { at = used + y; len = (x.count - n) % 2 ^ 32 }
        → HoldsTexts kind.TagDirective text before after start used n
        (Ok (record { token = record { kind = kind.TagDirective a b; start = start; end = x.place.mark }; next = x.place })) (prefix_run start (view text p))
    prefix_ended given few some z ta tx tb =
        let o = m.onward in
        texts_held tag_pairs given (omega arith) (omega arith) (prefix_read w) (is_ended start (view text p) (prefix_read w).is (rw (← l) z)) ta tx tb

-- a handle that was read, or none
place_is : {a b : Place} → ◌≡◌ {A = Result Place Refusal} (Ok a) (Ok b) → a ≡ b
place_is e = cc

refusal_is : {a b : Refusal} → ◌≡◌ {A = Result Place Refusal} (Err a) (Err b) → a ≡ b
refusal_is e = cc

module _ {text : List ℕ} {q : Place} where
  pub handle_told : {x : Result Place Refusal} {d : Read definition.Run} {e : Place} → Handles text q x d → x ≡ Ok e
      → (h : definition.Run) × (d ≡ got h) × Spans text q e h
  handle_told (handle {h = h} s) i = (h, refl, rw (place_is i) at s)
  handle_told no_handle i = cc

  handle_refused : {x : Result Place Refusal} {d : Read definition.Run} {f : Refusal} → Handles text q x d → x ≡ Err f → d ≡ refused f.number f.mark
  handle_refused (handle s) i = cc
  handle_refused no_handle i = ap (λ (f : Refusal). refused f.number f.mark) (refusal_is i)

-- the directive, by its handle
module _ (start : Mark) {text : List ℕ} {p q : Place} (m : Moves text p q (blanks_at (view text p))) where
  handle_read : {d : Read definition.Run} → tag_handle start (view text q) ≡ d → tag_handle start (blanks_at (view text p)) ≡ d
  handle_read e = ap (tag_handle start) (sym m.same) ∙ e

  pub tag_refused : {f : Refusal} {before : List ℕ} {used : ℕ} → Handles text q (Err f) (tag_handle start (view text q))
      → Reads text before before used (Err f) (tag_directive start (view text p))
  unfolding tag_directive ◌>>=◌
  tag_refused h = reads_refused (rw (handle_read (handle_refused h refl))) refl

  by_prefix : (h : List ℕ) (d : Read definition.Run)
      → ((d >>= λ r. need (is_blank_or_breakz (look r.place)) 19 start >>= λ _. got r) >>= λ r. got (tag_of start h r))
      ≡ (d >>= λ r. need (is_blank_or_breakz (look r.place)) 19 start >>= λ _. got (tag_of start h r))
  unfolding ◌>>=◌ need
  by_prefix h (got x) = by_test (is_blank_or_breakz (look x.place)) (λ e. rw e) (λ e. rw e)
  by_prefix h (refused n k) = refl

  pub tag_got : {e : Place} {h : definition.Run} {r : Result Lexeme Refusal} {before mid after : List ℕ} {used n : ℕ} → tag_handle start (view text q) ≡ got h
      → Spans text q e h → Fronts before mid h.text n → HoldsTexts kind.TagDirective text mid after start used n r (prefix_run start (view text e))
      → Reads text before after used r (tag_directive start (view text p))
  unfolding tag_directive prefix_run ◌>>=◌
  tag_got {e} {h} i s f d =
      rw (handle_read i, ← s.moves.same, ← (by_prefix h.text (tag_prefix start (blanks_at (view text e))))) (held_reads tag_pairs (prefix_run start (view text e)) f d)
