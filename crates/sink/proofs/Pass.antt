-- The laws of the pass from the back.
use Prim.Native.Nat.{◌%◌, ◌*◌, ◌+◌, ◌-◌, ◌<◌, ◌^◌, ◌≤◌, suc, zero, ℕ}
use mathlib.Core.List.{List, [], ◌++◌, ◌∷◌, append_assoc, append-nil}
use mathlib.Core.Path.{◌∙◌, ◌≡◌, ap, refl, sym}
use native.Mathlib.Omega.{arith}
use lib.ListN.{drop, get_or, length, length-append, length-drop, take, take-append-drop}
use lib.Seq.{drop_at, length-take-le, set-get_or, sets, sets-eq, take-add, take-nil, take-take}
use borrow.Author.Tests.{ne_eqb}
use Rattle.std.specs.Prelude.{Option, Some, None}
use Rattle.std.proofs.lemmas.Option.{none-some, same_Some}
use Rattle.yaml_lexeme.specs.declared.Kind.{Kind as HeldKind}
use Rattle.yaml_lexeme.specs.declared.Kind.TheVariants as held
use Rattle.yaml_lexeme.specs.Token.{Kind}
use Rattle.yaml_lexeme.specs.Record.{laid, number_of, record_words}
use Rattle.rooms.specs.Room.{sets_join, take_sets}
use Rattle.records.specs.Kinds.{note_base}
use Rattle.records.specs.Note.{empty_at, note_in, without_note, without_note_length}
use Rattle.records.specs.declared.noted.Noted.{Noted}
use Rattle.records.specs.declared.noted.Noted.TheVariants.{Block, Key as KeyNoted, Nothing, Pair}
use Rattle.records.specs.Noted.{first_noted, noted, noted_number, rest_noted}
use Rattle.sink.specs.Settle.{before, block, count, empties, extra, flatten, front, note_kinds, number, opener, record_at, settled_words, total_records}

-- lists of records

take_drop : (n m : ℕ) (l : List ℕ) → take m (drop n l) ≡ drop n (take (n + m) l)
take_drop zero m l = let e : 0 + m ≡ m = omega arith in rw e
take_drop (suc n) m [] = rw (take-nil m, take-nil (suc n + m))
take_drop (suc n) m (a ∷ l) = let e : suc n + m ≡ suc (n + m) = omega arith in rw e (take_drop n m l)

front_same : (i : ℕ) (l m : List ℕ) → take (i * record_words) l ≡ take (i * record_words) m → front i l ≡ front i m
unfolding front
front_same zero l m e = refl
front_same (suc i) l m e =
    let p = i * record_words in
    let le : p ≤ suc i * record_words = omega arith in
    let s : suc i * record_words ≡ p + record_words = omega arith in
    let d : take p l ≡ take p m = sym (take-take p (suc i * record_words) l le) ∙ ap (λ (x : List ℕ). take p x) e ∙ take-take p (suc i * record_words) m le in
    let f : take (p + record_words) l ≡ take (p + record_words) m = rw s at e in
    let r : record_at i l ≡ record_at i m = take_drop p record_words l ∙ ap (λ (x : List ℕ). drop p x) f ∙ sym (take_drop p record_words m) in
    rw (front_same i l m d, r)

total_snoc : (rs : List (List ℕ)) (r : List ℕ) → total_records (rs ++ (r ∷ [])) ≡ total_records rs + count r
unfolding total_records
total_snoc [] r = omega arith
total_snoc (a ∷ rs) r = let e = total_snoc rs r in omega arith

flatten_snoc : (rs : List (List ℕ)) (r : List ℕ) → flatten (rs ++ (r ∷ [])) ≡ flatten rs ++ block r
unfolding flatten
flatten_snoc [] r = append-nil (block r)
flatten_snoc (a ∷ rs) r = rw (flatten_snoc rs r) (sym (append_assoc (block a) (flatten rs) (block r)))

whole_length : (at : ℕ) (l : List ℕ) → at + record_words ≤ length l → length (take record_words (drop at l)) ≡ record_words
whole_length at l h = let e = length-drop at l in length-take-le record_words (drop at l) (omega arith)

-- one record more

total_more : (i : ℕ) (l : List ℕ) → total_records (front (suc i) l) ≡ total_records (front i l) + count (record_at i l)
unfolding front
total_more i l = total_snoc (front i l) (record_at i l)

pub total_least : (i : ℕ) (l : List ℕ) → i ≤ total_records (front i l)
total_least zero l = omega arith
total_least (suc i) l = let e = total_more i l in let h = total_least i l in omega arith

pub total_none : (i : ℕ) (l : List ℕ) → i ≤ 0 → total_records (front i l) ≡ i
unfolding front total_records
total_none zero l h = refl
total_none (suc i) l h = absurd (omega arith)

empties_length : (ks : List Kind) (r : List ℕ) → length (empties ks r) ≡ length ks * record_words
unfolding empties
empties_length [] r = refl
empties_length (k ∷ ks) r =
    let e = length-append (empty_at (number k) r) (empties ks r) in
    let f = empties_length ks r in
    omega arith

block_length : (r : List ℕ) → length r ≡ record_words → length (block r) ≡ count r * record_words
block_length r h =
    let e = empties_length (note_kinds (note_in r)) r in
    let f = length-append (before (note_in r) r) (without_note r) in
    let g = without_note_length r h in
    omega arith

front_sets : (i : ℕ) (l v : List ℕ) → front i (sets l (total_records (front i l) * record_words) v) ≡ front i l
front_sets i l v =
    let p = total_records (front i l) * record_words in
    let least = total_least i l in
    let at : i * record_words ≤ p = omega arith in
    front_same i (sets l p v) l (take_sets v l (i * record_words) p at)

-- THE step
settled_more : (i : ℕ) (l : List ℕ) → total_records (front (suc i) l) * record_words ≤ length l
    → settled_words (suc i) l ≡ settled_words i (sets l (total_records (front i l) * record_words) (block (record_at i l)))
unfolding front
settled_more i l h =
    let r = record_at i l in
    let p = total_records (front i l) * record_words in
    let v = block r in
    let least = total_least i l in
    let t = total_more i l in
    let fits : i * record_words + record_words ≤ length l = omega arith in
    let n = block_length r (whole_length (i * record_words) l fits) in
    let room : p + length v ≤ length l = omega arith in
    let ahead : p ≤ length l = omega arith in
    let q : (total_records (front i l) + count r) * record_words ≡ p + length v = omega arith in
    let same : front i (sets l p v) ≡ front i l = front_sets i l v in
    let back : drop p (sets l p v) ≡ v ++ drop (p + length v) l =
    rw (sets-eq v l p room, append_assoc (take p l) v (drop (p + length v) l)) (drop_at (take p l) (v ++ drop (p + length v) l) p (length-take-le p l ahead)) in
    rw (same, back, flatten_snoc (front i l) r, total_snoc (front i l) r, q) (append_assoc (flatten (front i l)) v (drop (p + length v) l))

-- no note is left: all stands where it should

extra_zero : (n : ℕ) → extra n ≡ 0 → n ≡ 0
unfolding note_kinds
extra_zero zero e = refl
extra_zero (suc zero) e = e
extra_zero (suc (suc n)) e = absurd (omega arith)

block_plain : (r : List ℕ) → note_in r ≡ 0 → block r ≡ r
unfolding note_kinds empties
block_plain r e =
    let m : get_or r 0 0 % note_base ≡ get_or r 0 0 = omega arith in
    rw (e, m) (set-get_or r 0 0)

flatten_plain : (i : ℕ) (l : List ℕ) → total_records (front i l) ≡ i → flatten (front i l) ≡ take (i * record_words) l
unfolding front flatten
flatten_plain zero l e = refl
flatten_plain (suc i) l e =
    let r = record_at i l in
    let t = total_snoc (front i l) r in
    let h = total_least i l in
    let z : extra (note_in r) ≡ 0 = omega arith in
    let g : total_records (front i l) ≡ i = omega arith in
    let s : suc i * record_words ≡ i * record_words + record_words = omega arith in
    rw (flatten_snoc (front i l) r, flatten_plain i l g, block_plain r (extra_zero (note_in r) z), s) (sym (take-add (i * record_words) record_words l))

pub settled_none : (i : ℕ) (l : List ℕ) → total_records (front i l) ≡ i → settled_words i l ≡ l
settled_none i l e = rw (flatten_plain i l e, e) (take-append-drop (i * record_words) l)

-- the last record of the first i, as load and put_block have it

pub record LastOfFront (i j : ℕ) (l : List ℕ) : Type 0 where
  pub some : 1 ≤ i
  pub fits : (i - 1) * record_words + record_words ≤ length l
  pub long : length (record_at (i - 1) l) ≡ record_words
  pub few : count (record_at (i - 1) l) ≤ j

pub last_of_front : (i j : ℕ) (l : List ℕ) → i < j → j ≡ total_records (front i l) → j * record_words ≤ length l → LastOfFront i j l
unfolding front total_records
last_of_front zero j l h e m = absurd (omega arith)
last_of_front (suc i) j l h e m =
    let d : suc i - 1 ≡ i = omega arith in
    let s = total_more i l in
    let f : (suc i - 1) * record_words + record_words ≤ length l = omega (arith, total_least i l) in
    record {
      some = omega arith;
      fits = f;
      long = whole_length ((suc i - 1) * record_words) l f;
      few = rw d (omega arith);
    }

pub block_put : (i j k : ℕ) (l r out : List ℕ) → LastOfFront i j l → j ≡ total_records (front i l) → j * record_words ≤ length l → r ≡ record_at (i - 1) l → k ≡ j - count r → out ≡ sets l (k * record_words) (block r)
    → (k ≡ total_records (front (i - 1) out)) × (settled_words i l ≡ settled_words (i - 1) out)
block_put zero j k l r out w e m a b o = absurd (omega (arith, w.some))
block_put (suc i) j k l r out w e m a b o =
    let d : suc i - 1 ≡ i = omega arith in
    let a' : r ≡ record_at i l = rw d at a in
    let s = total_more i l in
    let left : total_records (front i l) ≡ j - count (record_at i l) = omega arith in
    let kk : k ≡ total_records (front i l) = b ∙ rw a' (sym left) in
    let h : total_records (front (suc i) l) * record_words ≤ length l = rw (sym e) m in
    let oo : out ≡ sets l (total_records (front i l) * record_words) (block (record_at i l)) = o ∙ rw (kk, a') in
    let same = front_sets i l (block (record_at i l)) in
    rw (d, oo) (kk ∙ ap total_records (sym same), settled_more i l h)

-- what goes in before a record

-- what goes in: nothing, one token or two
abbrev pub Goes : Noted → (List ℕ → List ℕ) → ℕ → Type 0
Goes n words k = (extra (noted_number n) ≡ k) × ((x : List ℕ) → before (noted_number n) x ≡ words x)

pub goes_none : (n : Noted) {f : Option HeldKind} → f ≡ first_noted n → f ≡ None → Goes n (λ x. []) 0
unfolding note_kinds empties
goes_none Nothing e f = (refl, λ x. refl)
goes_none KeyNoted e f = absurd (none-some _ (sym f ∙ e))
goes_none Pair e f = absurd (none-some _ (sym f ∙ e))
goes_none Block e f = absurd (none-some _ (sym f ∙ e))

module _ {f g : Option HeldKind} {r : Noted} (k : HeldKind) (some : f ≡ Some k) (second : g ≡ first_noted r) where
  pub goes_one : (n : Noted) → f ≡ first_noted n → r ≡ rest_noted n → g ≡ None → Goes n (λ x. empty_at (number_of k) x) 1
  unfolding note_kinds empties number_of laid
  goes_one Nothing e s d = absurd (none-some k (sym e ∙ some))
  goes_one KeyNoted e s d = rw (sym (same_Some _ k (sym e ∙ some))) (refl, λ x. refl)
  goes_one Pair e s d = absurd (none-some held.Key (sym d ∙ second ∙ ap (λ (m : Noted). first_noted m) s))
  goes_one Block e s d = absurd (none-some held.Key (sym d ∙ second ∙ ap (λ (m : Noted). first_noted m) s))

  pub goes_two : (n : Noted) (j : HeldKind) → f ≡ first_noted n → r ≡ rest_noted n → g ≡ Some j → Goes n (λ x. empty_at (number_of k) x ++ empty_at (number_of j) x) 2
  unfolding note_kinds empties number_of laid opener
  goes_two Nothing j e s d = absurd (none-some k (sym e ∙ some))
  goes_two KeyNoted j e s d = absurd (none-some j (sym (ap (λ (m : Noted). first_noted m) s) ∙ sym second ∙ d))
  goes_two Pair j e s d = rw (sym (same_Some _ k (sym e ∙ some)), sym (same_Some _ j (sym (ap (λ (m : Noted). first_noted m) s) ∙ sym second ∙ d))) (refl, λ x. refl)
  goes_two Block j e s d = rw (sym (same_Some _ k (sym e ∙ some)), sym (same_Some _ j (sym (ap (λ (m : Noted). first_noted m) s) ∙ sym second ∙ d))) (refl, λ x. refl)

-- the stores of a block, one after the other

pub put_none : (n : Noted) (j : ℕ) (x l : List ℕ) → Goes n (λ x. []) 0 → (j ≡ j - extra (noted_number n)) × (l ≡ sets l (j * record_words) (before (noted_number n) x))
put_none n j x l h = rw (h.0, h.1 x) (omega arith, refl)

pub put_one : (n : Noted) (j k : ℕ) (x l out : List ℕ) → Goes n (λ x. empty_at k x) 1 → out ≡ sets l ((j - 1) * record_words) (empty_at k x)
    → (j - 1 ≡ j - extra (noted_number n)) × (out ≡ sets l ((j - 1) * record_words) (before (noted_number n) x))
put_one n j k x l out h o = rw (h.0, h.1 x) (refl, o)

pub put_two : (n : Noted) (j p k : ℕ) (x l m out : List ℕ) → 2 ≤ j → Goes n (λ x. empty_at p x ++ empty_at k x) 2 → m ≡ sets l ((j - 2) * record_words) (empty_at p x)
    → out ≡ sets m ((j - 1) * record_words) (empty_at k x) → (j - 2 ≡ j - extra (noted_number n)) × (out ≡ sets l ((j - 2) * record_words) (before (noted_number n) x))
put_two n j p k x l m out h w a o =
    let s : (j - 1) * record_words ≡ (j - 2) * record_words + record_words = omega arith in
    rw (w.0, w.1 x) (refl, o ∙ rw (a, s) (sets_join (empty_at p x) (empty_at k x) l ((j - 2) * record_words)))

pub kinds_noted : (k : ℕ) {n : Noted} → n ≡ noted k → note_kinds (noted_number n) ≡ note_kinds k
unfolding note_kinds opener
kinds_noted zero e = rw e
kinds_noted (suc zero) e = rw e
kinds_noted (suc (suc zero)) e = rw e
kinds_noted (suc (suc (suc k))) e = rw (e, ne_eqb (suc (suc (suc k))) 2 (λ h. absurd (omega (arith, h))))

pub before_fits : (j i : ℕ) (x l : List ℕ) → (length x ≡ record_words) × (count x ≤ j) × (j * record_words ≤ length l) × (j < 2 ^ 32) → note_kinds i ≡ note_kinds (note_in x)
    → (extra i ≤ j - 1) × ((j - 1) * record_words ≤ length l) × (j - 1 < 2 ^ 32)
before_fits j i x l h e = rw e (omega (arith, h), omega (arith, h), omega (arith, h))

pub put_last : (j k i : ℕ) (x l m y out : List ℕ) → count x ≤ j → note_kinds i ≡ note_kinds (note_in x) → k ≡ j - 1 - extra i → m ≡ sets l (k * record_words) (before i x)
    → y ≡ without_note x → out ≡ sets m ((j - 1) * record_words) y → (k ≡ j - count x) × (out ≡ sets l (k * record_words) (block x))
put_last j k i x l m y out h f e mm a o =
    let n = empties_length (note_kinds (note_in x)) x in
    let e' : k ≡ j - 1 - extra (note_in x) = e ∙ rw f in
    let s : (j - 1) * record_words ≡ k * record_words + length (before (note_in x) x) = omega arith in
    (omega arith, o ∙ rw (mm, f, a, s) (sets_join (before (note_in x) x) (without_note x) l (k * record_words)))
