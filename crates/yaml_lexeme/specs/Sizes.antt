-- What a text takes in bytes; and the price of what a reader decodes: twice its bytes are at most three times the bytes of the characters that it takes.
-- Here: plain scalars. EscapeSizes, QuotedSizes, BlockSizes and TagSizes hold the other readers to it.
use Rattle.std.specs.Prelude.{◌*◌, ◌+◌, ◌≤◌, suc, zero, ℕ, Bool, ◌&&◌, false, List, [], ◌++◌, ◌∷◌, ◌≡◌, refl, ltb, drop, length, replicate}
use Rattle.std.proofs.Common.{arith, length-append}
use Rattle.yaml_text.specs.declared.Mark.{Mark}
use Rattle.yaml_text.specs.Char.{line_feed, space}
use Rattle.yaml_text.specs.Class.{is_blank, none_left, peek}
use Rattle.yaml_text.specs.Utf8.{char_bytes, encode}
use Rattle.yaml_text.specs.Mark.{Place, Run, along, before_run, here, look, nothing_at, run_of}
use Rattle.yaml_text.specs.Refusal.{Read, before_read}
use Rattle.yaml_text.specs.Test.{by_pick, by_test}
use Rattle.yaml_text.specs.All.{All, holds, not_read}
use Rattle.yaml_text.specs.PlaceLaws.{FurtherOn, left}
use Rattle.yaml_lexeme.specs.Token.{Lexeme, kind_bytes, size, token_bytes}
use Rattle.yaml_lexeme.specs.Role.{neither, role}
use Rattle.yaml_lexeme.specs.Fold.{fold}
use Rattle.yaml_lexeme.specs.Plain.{glue, plain_stops, plain_text, scan_plain_scalar}

-- the bytes of a text

abbrev pub width : ℕ → ℕ
width c = length (char_bytes c)

pub width_some : (c : ℕ) → (1 ≤ width c) × (width c ≤ 4)
unfolding char_bytes
width_some c =
    by_pick P (ltb c 0x80) _ _ (omega arith)
    (by_pick P (ltb c 0x800) _ _ (omega arith)
    (by_pick P (ltb c 0x10000) _ _ (omega arith) (omega arith)))
  where
    P : List ℕ → Type 0
    P l = (1 ≤ length l) × (length l ≤ 4)

pub size_cons : (c : ℕ) (cs : List ℕ) → size (c ∷ cs) ≡ width c + size cs
unfolding encode
size_cons c cs = length-append (char_bytes c) (encode cs)

pub size_nil : size [] ≡ 0
unfolding encode
size_nil = refl

pub size_one : (c : ℕ) → size (c ∷ []) ≡ width c
size_one c = omega (arith, size_cons c [], size_nil)

pub size_append : (s t : List ℕ) → size (s ++ t) ≡ size s + size t
size_append [] t = omega (arith, size_nil)
size_append (c ∷ s) t = omega (arith, size_cons c s, size_cons c (s ++ t), size_append s t)

-- line feeds take a byte each
pub size_feeds : (n : ℕ) → size (replicate n line_feed) ≡ n
unfolding char_bytes
size_feeds zero = size_nil
size_feeds (suc n) = omega (arith, size_cons line_feed (replicate n line_feed), size_feeds n)

-- no break becomes more than a byte
pub fold_size : (n : ℕ) → size (fold n) ≤ n
unfolding fold char_bytes
fold_size zero = omega (arith, size_nil)
fold_size (suc zero) = omega (arith, size_one space)
fold_size (suc (suc n)) = omega (arith, size_feeds (suc n))

pub size_drop : (n : ℕ) (cs : List ℕ) → n ≤ length cs → n + size (drop n cs) ≤ size cs
size_drop zero cs h = omega arith
size_drop (suc n) [] h = absurd (omega arith)
size_drop (suc n) (c ∷ cs) h = omega (arith, size_cons c cs, (width_some c).0, size_drop n cs (omega arith))

pub drop_less : (n : ℕ) (cs : List ℕ) → size (drop n cs) ≤ size cs
drop_less zero cs = omega arith
drop_less (suc n) [] = omega arith
drop_less (suc n) (c ∷ cs) = omega (arith, size_cons c cs, drop_less n cs)

pub size_first : (cs : List ℕ) → 1 ≤ length cs → size cs ≡ width (peek cs 0) + size (drop 1 cs)
size_first [] h = absurd (omega arith)
size_first (c ∷ cs) h = size_cons c cs

pub size_fits : {p q : Place} → FurtherOn p q → size q.rest ≤ size p.rest
size_fits {p} f = rw f.rest_is (drop_less f.taken p.rest)

-- n bytes are decoded from the text cs, of which rest is left; k bytes of them were paid before
abbrev pub Pays : ℕ → List ℕ → ℕ → List ℕ → Type 0
Pays k cs n rest = 2 * n + 3 * size rest ≤ 2 * k + 3 * size cs

abbrev pub PaysRun : ℕ → List ℕ → Run → Type 0
PaysRun k cs r = Pays k cs (size r.text) r.place.rest

-- what a reader of the text cs is held to: its token starts and ends nothing, and the token's texts are paid
pub record Lexed (k : ℕ) (cs : List ℕ) (l : Lexeme) : Type 0 where
  pub neutral : role l.token.kind ≡ neither
  pub paid : Pays k cs (length (token_bytes l.token)) l.place.rest

-- further text before what is read
pub all_before : {P Q : Run → Type 0} {r : Read Run} (t : List ℕ) → ((r : Run) → P r → Q (before_run t r)) → All Run P r → All Run Q (before_read t r)
unfolding before_read
all_before t f (holds {a = r} h) = holds (f r h)
all_before t f not_read = not_read

pub run_of_pays : (f : ℕ → Bool) (m : Mark) (cs : List ℕ) → PaysRun 0 cs (run_of f m cs)
unfolding run_of
run_of_pays f m [] = omega (arith, size_nil)
run_of_pays f m (c ∷ cs) =
    by_test (f c)
    (λ e. let r = run_of f (along m) cs in
    rw (e, run_of) (omega (arith, size_cons c cs, size_cons c r.text, run_of_pays f (along m) cs)))
    (λ e. rw (e, run_of) (omega (arith, size_nil)))

-- plain scalars

plain_text_pays : (flow blank : Bool) (m : Mark) (cs : List ℕ) → PaysRun 0 cs (plain_text flow blank m cs)
unfolding plain_text glue
plain_text_pays flow blank m [] = omega (arith, size_nil)
plain_text_pays flow blank m (c ∷ cs) =
    by_test (plain_stops flow blank c (peek cs 0))
    (λ e. rw (e, plain_text) (omega (arith, size_nil)))
    (λ e. let r = plain_text flow (is_blank c) (along m) cs in
    rw (e, plain_text) (by_pick (PaysRun 0 (c ∷ cs)) (is_blank c && none_left r.text) (nothing_at (here m (c ∷ cs))) (before_run (c ∷ []) r)
    (omega (arith, size_nil)) (omega (arith, size_cons c cs, size_cons c r.text, plain_text_pays flow (is_blank c) (along m) cs))))

pub plain_lexed : (flow : Bool) (p : Place) → 1 ≤ left p → Lexed 0 p.rest (scan_plain_scalar flow p)
unfolding scan_plain_scalar kind_bytes role
plain_lexed flow p h =
    let r = plain_text flow false (along p.mark) (drop 1 p.rest) in
    record { neutral = refl; paid = omega (arith, size_first p.rest h, size_cons (look p) r.text, plain_text_pays flow false (along p.mark) (drop 1 p.rest)) }
