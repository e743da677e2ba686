-- Theorems about specs/Enough, and what rests on them.
use Rattle.std.specs.Prelude.{◌*◌, ◌+◌, ◌/◌, ◌<◌, ◌≤◌, ℕ, List, [], ◌++◌, ◌∷◌, ◌≡◌, refl, length}
use Rattle.std.proofs.Common.{append_assoc, ◌∙◌, ap, sym, add-zero, arith, length-append}
use Rattle.yaml_text.specs.declared.Mark.{Mark}
use Rattle.yaml_text.specs.Utf8.{chars}
use Rattle.yaml_lexeme.specs.Token.{Token, texts, token_bytes}
use Rattle.yaml_lexeme.specs.Record.{record_words, records}
use Rattle.yaml_scan.specs.declared.Limits.{Limits}
use Rattle.yaml_scan.specs.State.{Event}
use Rattle.yaml_scan.specs.Scan.{outcome, scanned}
use Rattle.yaml_scan.specs.Slots.{tokens_of}
use Rattle.theorems.specs.Accepted.{Accepts}
use Rattle.theorems.specs.Tokens as tokens
use Rattle.theorems.specs.Bytes as bytes
use Rattle.yaml_stream.specs.Stream.{Heard, Stream, ended, fresh, hear, heard, least_records, most_waiting, refusal, too_many_wait}
use Rattle.yaml_stream.specs.Tale.{at_end, built}
use Rattle.yaml_stream.specs.Sizes.{texts_append}
use Rattle.yaml_stream.specs.Given.{Ends, Own, by_own, by_rule, bytes_full, few_words, many_wait, whole}
use Rattle.yaml_stream.specs.Answers.{Comes}
use Rattle.yaml_stream.proofs.Answers.{accepted_ends, comes_owes}

not_own : {n : ℕ} {m : Mark} (words room : ℕ) (list : List Token) → least_records ≤ words / record_words → length (texts list) ≤ room → length list ≤ most_waiting → Own words room list n m → ⊥
not_own words room list w d t (bytes_full h) = omega arith
not_own words room list w d t (many_wait h) = omega arith
not_own words room list w d t (few_words h) = omega arith

-- for an accepted text: words for 4,400 records, bytes for the texts of its list, and a list of 4,096 tokens at most
pub all_given : (limits : Limits) (bytes : List ℕ) (words room k : ℕ) (es : List Event) → outcome limits bytes ≡ scanned es → length (tokens_of es) < k
    → least_records ≤ words / record_words → length (texts (tokens_of es)) ≤ room → length (tokens_of es) ≤ most_waiting → hear limits room k (fresh limits bytes words) ≡ heard (tokens_of es) ended
all_given limits bytes words room k es e b w d t = by_end (accepted_ends limits bytes words room k es e b)
  where
    by_end : {h : Heard} → Ends (Own words room (tokens_of es)) (tokens_of es) at_end h → h ≡ heard (tokens_of es) ended
    by_end (whole f) = refl
    by_end (by_rule vs f g) = let z : ◌≡◌ {A = ℕ} 0 1 = cc in absurd (omega arith)
    by_end (by_own vs f o) = absurd (not_own words room (tokens_of es) w d t o)

-- whatever the length of its list, 51 is the only other end where words and bytes are enough
pub all_or_51 : (limits : Limits) (bytes : List ℕ) (words room k : ℕ) (es : List Event) → outcome limits bytes ≡ scanned es → length (tokens_of es) < k
    → least_records ≤ words / record_words → length (texts (tokens_of es)) ≤ room → ((m : Mark) → (hear limits room k (fresh limits bytes words)).last ≡ refusal too_many_wait m → ⊥)
    → hear limits room k (fresh limits bytes words) ≡ heard (tokens_of es) ended
all_or_51 limits bytes words room k es e b w d t = by_end (accepted_ends limits bytes words room k es e b) t
  where
    by_own_end : {n : ℕ} {m : Mark} (ts : List Token) → Own words room (tokens_of es) n m → ((j : Mark) → (heard ts (refusal n m)).last ≡ refusal too_many_wait j → ⊥)
        → heard ts (refusal n m) ≡ heard (tokens_of es) ended
    by_own_end ts (bytes_full h) f = absurd (omega arith)
    by_own_end ts (many_wait {m = m} h) f = absurd (f m refl)
    by_own_end ts (few_words h) f = absurd (omega arith)

    by_end : {h : Heard} → Ends (Own words room (tokens_of es)) (tokens_of es) at_end h → ((m : Mark) → h.last ≡ refusal too_many_wait m → ⊥) → h ≡ heard (tokens_of es) ended
    by_end (whole f) g = refl
    by_end (by_rule vs f i) g = let z : ◌≡◌ {A = ℕ} 0 1 = cc in absurd (omega arith)
    by_end (by_own {ts = ts} vs f o) g = by_own_end ts o g

-- by the text's own length: c characters and b bytes
pub enough : (limits : Limits) (text : List ℕ) (ts : List Token) (words room k : ℕ) → Accepts limits text ts
    → least_records ≤ words / record_words → 3 * length text / 2 ≤ room → 2 * length (chars text) + 3 ≤ most_waiting → most_waiting < k → hear limits room k (fresh limits text words) ≡ heard ts ended
enough limits text ts words room k a w b c h =
    let t = tokens.at_most limits text ts a in
    let d = bytes.at_most limits text ts a in
    let l = ap (λ (us : List Token). length us) a.list in
    let x = ap (λ (us : List Token). length (texts us)) a.list in
    all_given limits text words room k a.events a.accepted (omega arith) w (omega arith) (omega arith) ∙ ap (λ (us : List Token). heard us ended) (sym a.list)

records_append : (used : ℕ) (ts us : List Token) → records used (ts ++ us) ≡ records used ts ++ records (used + length (texts ts)) us
unfolding records texts
records_append used [] us = rw (add-zero used)
records_append used (t ∷ ts) us =
    let e : used + length (token_bytes t) + length (texts ts) ≡ used + length (token_bytes t ++ texts ts) = omega (arith, length-append (token_bytes t) (texts ts)) in
    rw (records_append (used + length (token_bytes t)) ts us, e, append_assoc)

-- each token given has its record of 01, and its texts stand at 01's offset, behind those of the tokens given before it
pub given_records : (limits : Limits) (bytes : List ℕ) (words room : ℕ) {ts : List Token} {y : Stream} → Comes limits room (fresh limits bytes words) ts y
    → (vs : List Token) × (records 0 (built limits bytes) ≡ records 0 ts ++ records (length (texts ts)) vs) × (texts (built limits bytes) ≡ texts ts ++ texts vs)
given_records limits bytes words room {ts = ts} r =
    let k = comes_owes limits bytes words room r in
    let z : 0 + length (texts ts) ≡ length (texts ts) = omega arith in
    let e : records 0 (built limits bytes) ≡ records 0 ts ++ records (length (texts ts)) k.0 = ap (λ (us : List Token). records 0 us) k.1 ∙ rw z at (records_append 0 ts k.0) in
    (k.0, e, ap (λ (us : List Token). texts us) k.1 ∙ texts_append ts k.0)
