-- Storing a text, one behind another; line feeds, and what breaks fold to.
use Rattle.std.specs.Prelude.{◌+◌, suc, zero, ℕ, List, ◌++◌, ◌≡◌, refl, length, replicate, set}
use Rattle.std.proofs.Common.{◌∙◌, arith, length-append}
use Rattle.std.proofs.lemmas.List.{length-replicate}
use Rattle.std.proofs.lemmas.List.Edits.{sets}
use Rattle.yaml_text.specs.Utf8.{char_bytes, encode}
use Rattle.yaml_text.specs.Utf8Laws.{encode_append}
use Rattle.yaml_lexeme.specs.Fold.{fold}
use Rattle.rooms.specs.Room.{sets_join}

-- the text t was stored from n on, and the next byte goes to k
pub record Puts (before : List ℕ) (n : ℕ) (after : List ℕ) (k : ℕ) (t : List ℕ) : Type 0 where
  pub bytes : after ≡ sets before n (encode t)
  pub next : k ≡ n + length (encode t)

pub puts_then : {a b c : List ℕ} {i j k : ℕ} {s t : List ℕ} → Puts a i b j s → Puts b j c k t → Puts a i c k (s ++ t)
puts_then {a} {i = i} {s = s} {t = t} p q =
    record {
      bytes = q.bytes ∙ rw (p.bytes, p.next, encode_append s t) (sets_join (encode s) (encode t) a i);
      next = rw (encode_append s t) (omega (arith, p.next, q.next, length-append (encode s) (encode t)));
    }

pub encode_breaks : (k : ℕ) → encode (replicate k 10) ≡ replicate k 10
unfolding encode char_bytes
encode_breaks zero = refl
encode_breaks (suc k) = rw (encode_breaks k)

-- by what `put_breaks` ensures
pub puts_breaks : {before after : List ℕ} {n r : ℕ} (k : ℕ) → (after ≡ sets before n (replicate k 10)) × (r ≡ n + k) → Puts before n after r (replicate k 10)
puts_breaks k e = record { bytes = e.0 ∙ rw (encode_breaks k); next = e.1 ∙ rw (encode_breaks k, length-replicate {A = ℕ} k 10) }

-- what a break and k more fold to

fold_more : (k : ℕ) → (k ≡ 0 → ⊥) → fold (suc k) ≡ replicate k 10
unfolding fold
fold_more zero z = absurd (z refl)
fold_more (suc k) z = refl

module _ {before after : List ℕ} {n k r : ℕ} where
  pub puts_space : k ≡ 0 → after ≡ set before n 32 → r ≡ n + 1 → Puts before n after r (fold (suc k))
  unfolding fold encode char_bytes
  puts_space e f g = rw e (record { bytes = f; next = g })

  pub puts_more : (k ≡ 0 → ⊥) → (after ≡ sets before n (replicate k 10)) × (r ≡ n + k) → Puts before n after r (fold (suc k))
  puts_more z f = rw (fold_more k z) (puts_breaks k f)
