-- What a reader answers, put together: a token with its texts written from the room's front, or a refusal, which has cleared the room.
use Rattle.std.specs.Prelude.{◌%◌, ◌+◌, ◌^◌, ◌≤◌, ℕ, List, Result, Ok, Err, ◌≡◌, refl, get_or, length, replicate}
use Rattle.std.proofs.Common.{◌∙◌, ap, sym, arith}
use Rattle.std.proofs.Math.Seq.{length-sets}
use Rattle.std.proofs.lemmas.List.Edits.{sets}
use Rattle.yaml_text.specs.declared.Mark.{Mark}
use Rattle.yaml_text.specs.declared.Refusal.{Refusal}
use Rattle.yaml_text.specs.Mark.{along}
use Rattle.yaml_text.specs.All.{All, holds, not_read}
use Rattle.yaml_text.specs.Refusal.{Read, got, refused}
use Rattle.yaml_lexeme.specs.declared.Text.{Text}
use Rattle.yaml_lexeme.specs.Record.{laid_token, text_at}
use Rattle.yaml_lexeme.specs.Token.{size}
use Rattle.yaml_lexeme.specs.Token as tokens
use Rattle.chars.specs.declared.mark.Place.{Place}
use Rattle.chars.specs.Bytes.{CharAt, byte_char}
use Rattle.chars.specs.Places.{stands_along}
use Rattle.chars.specs.View.{Stands, past, view}
use Rattle.reading.specs.declared.Lexeme.{Lexeme}
use Rattle.reading.specs.Reading.{ReadsAhead, Behind, Clears, ReaderGiven, Indicated, Lexes, bytes_after, cleared, first_at, laid_read, seen}

-- what a reader answers, without the lent bytes
pub record ReaderAnswers (text : List ℕ) (used : ℕ) (r : Result Lexeme Refusal) (d : Read tokens.Lexeme) : Type 0 where
  pub same : seen text r ≡ laid_read used d
  pub ahead : ReadsAhead text r

module _ {text : List ℕ} {used : ℕ} {r : Result Lexeme Refusal} {d : Read tokens.Lexeme} where
  pub answers_got : {x : Lexeme} {l : tokens.Lexeme} → r ≡ Ok x → d ≡ got l → x.token ≡ laid_token used l.token → view text x.next ≡ l.place
      → Behind text x → ReaderAnswers text used r d
  unfolding seen laid_read
  answers_got e f t p h = rw (e, f) (record { same = rw (t, p); ahead = h })

  pub answers_refused : {n : ℕ} {m : Mark} → r ≡ Err (record { number = n; mark = m }) → d ≡ refused n m → ReaderAnswers text used r d
  unfolding seen laid_read
  answers_refused e f = rw (e, f) (record { same = refl; ahead = tt })

  module _ {before after : List ℕ} where
    pub lexes_got : {x : Lexeme} {l : tokens.Lexeme} → r ≡ Ok x → d ≡ got l → x.token ≡ laid_token used l.token → view text x.next ≡ l.place
        → after ≡ sets before 0 (tokens.token_bytes l.token) → Behind text x → Lexes text before after used r d
    unfolding bytes_after
    lexes_got e f t p b h = let w = answers_got e f t p h in record { same = w.same; bytes = b ∙ rw f; ahead = w.ahead }

    pub lexes_refused : {n : ℕ} {m : Mark} → r ≡ Err (record { number = n; mark = m }) → d ≡ refused n m → after ≡ replicate (length before) 0
        → Lexes text before after used r d
    unfolding bytes_after
    lexes_refused e f b = let w = answers_refused e f in record { same = w.same; bytes = b ∙ rw f; ahead = w.ahead }

-- the texts of a token that was read stand in the room
abbrev pub TextsIn : List ℕ → List ℕ → Read tokens.Lexeme → Type 0
TextsIn before mid d = All tokens.Lexeme (λ l. mid ≡ sets before 0 (tokens.token_bytes l.token)) d

-- a reader's contract before its refusal has cleared the room; of the bytes that a refusal leaves it tells only how many they are
pub record Reads (text before after : List ℕ) (used : ℕ) (r : Result Lexeme Refusal) (d : Read tokens.Lexeme) : Type 0 where
  pub answers : ReaderAnswers text used r d
  pub texts : TextsIn before after d
  pub kept : length after ≡ length before

apart : {A B : Type 0} {a : A} {n : ℕ} {m : Mark} → got a ≡ refused n m → B
apart e = let z : ◌≡◌ {A = ℕ} 0 1 = cc in absurd (omega arith)

-- what was answered, once a refusal has cleared the room
pub lexes_cleared : {text before mid after : List ℕ} {used : ℕ} {e : Result Lexeme Refusal} (r : Result Lexeme Refusal) (d : Read tokens.Lexeme) → ReaderAnswers text used r d → TextsIn before mid d
    → length mid ≡ length before → Clears mid after r e → Lexes text before after used e d
unfolding seen laid_read bytes_after cleared
lexes_cleared (Ok l) (got x) h (holds w) i k = rw k.same (record { same = h.same; bytes = k.bytes ∙ w; ahead = h.ahead })
lexes_cleared (Ok l) (refused n m) h w i k = apart h.same
lexes_cleared (Err f) (got x) h w i k = apart (sym h.same)
lexes_cleared (Err f) (refused n m) h w i k = rw k.same (record { same = h.same; bytes = rw i at k.bytes; ahead = tt })

module _ {text before after : List ℕ} {used : ℕ} {d : Read tokens.Lexeme} where
  pub reads_got : {x : Lexeme} {l : tokens.Lexeme} → d ≡ got l → x.token ≡ laid_token used l.token → view text x.next ≡ l.place
      → after ≡ sets before 0 (tokens.token_bytes l.token) → Behind text x → Reads text before after used (Ok x) d
  reads_got {l = l} f t p b h =
      record { answers = answers_got refl f t p h; texts = rw f (holds b); kept = ap length b ∙ length-sets before 0 (tokens.token_bytes l.token) }

  pub reads_refused : {n : ℕ} {m : Mark} → d ≡ refused n m → length after ≡ length before
      → Reads text before after used (Err (record { number = n; mark = m })) d
  reads_refused f k = record { answers = answers_refused refl f; texts = rw f not_read; kept = k }

  pub reads_cleared : {cleared : List ℕ} {r e : Result Lexeme Refusal} → Reads text before after used r d → Clears after cleared r e → Lexes text before cleared used e d
  reads_cleared {r = r} h k = lexes_cleared r d h.answers h.texts h.kept k

-- the place behind an indicator
abbrev pub behind_first : Mark → Place
behind_first start = past (first_at start) 1 (along start)

module _ {text : List ℕ} {start : Mark} {used : ℕ} (h : Indicated text start used) where
  -- the indicator is a character
  pub first_char : CharAt text 0 (get_or text 0 0) 1
  first_char = byte_char text 0 (get_or text 0 0) refl h.some h.ascii

  pub stands_behind : Stands text (behind_first start)
  stands_behind = stands_along h.given.stands 1 1 (omega arith) first_char.within

module _ {text : List ℕ} {start : Mark} {used : ℕ} (h : ReaderGiven text start used) where
  -- no count of the text's bytes wraps as a word
  pub word_small : (n : ℕ) → n ≤ length text → n % 2 ^ 32 ≡ n
  word_small n k = omega (arith, h.stands)

  -- two texts, one behind the other
  pub texts_at : {one other : Text} {a b w : ℕ} (t u : List ℕ) → a ≡ size t → b ≡ size u → a + b ≤ length text
      → one ≡ record { at = used; len = a % 2 ^ 32 } → w ≡ a % 2 ^ 32 → other ≡ record { at = used + w; len = b % 2 ^ 32 }
      → (one ≡ text_at used t) × (other ≡ text_at (used + size t) u)
  texts_at {a = a} {b = b} t u e f l i k j =
      let m = word_small a (omega arith) in
      let n = word_small b (omega arith) in
      (i ∙ rw (m, e), j ∙ rw (k, m, n, e, f))
