-- Theorems about specs/KeysNear, and what rests on them.
use Prim.Native.Nat.{◌+◌, ◌<◌, ◌≤◌, suc, zero, ℕ}
use Rattle.std.specs.Prelude.{Bool, ◌⊎◌, ◌≡◌}
use Rattle.std.proofs.Math.Bool.{false, true}
use mathlib.Core.List.{List, [], ◌++◌, ◌∷◌}
use Rattle.std.proofs.Common.{inl, inr, ◌∙◌, ap, sym, eq-eqb}
use Rattle.std.proofs.Math.Path.{refl}
use native.Mathlib.Omega.{arith}
use Rattle.std.proofs.Math.ListN.{length}
use Rattle.yaml_text.specs.declared.Mark.{Mark}
use Rattle.yaml_text.specs.PlaceLaws.{left}
use Rattle.yaml_text.specs.Test.{true_false}
use Rattle.yaml_lexeme.specs.Token.{BlockMappingStart, FlowMappingStart, Key, Token, empty_token}
use Rattle.yaml_scan.specs.declared.Candidate.{Candidate}
use Rattle.yaml_scan.specs.declared.Candidate.TheVariants.{Absent, Possible}
use Rattle.yaml_scan.specs.declared.Limits.{Limits}
use Rattle.yaml_scan.specs.State.{Event, State, mark_of, put, put_before, puts}
use Rattle.yaml_scan.specs.Scan.{after_step, begin, run, scanned}
use Rattle.yaml_scan.specs.Slots.{Slot, flat, note, slot, slots}
use Rattle.yaml_scan.specs.SlotLaws.{slots_append, slots_length}
use Rattle.yaml_scan.specs.Runs.{StepsReach, here}
use Rattle.yaml_scan.specs.Budget.{on_news}
use Rattle.yaml_scan.proofs.Budget.{outcome_placed}
use Rattle.theorems.specs.Accepted.{Accepts}
use Rattle.theorems.specs.Induction.{OfOutcome, after_good}
use Rattle.yaml_stream.specs.Stream.{possible}
use Rattle.yaml_stream.specs.Kept.{Names, NotesAt}
use Rattle.yaml_stream.specs.Tale.{closes_as, run_tale, tale, tale_names}
use Rattle.yaml_stream.specs.Waits.{flat_length}
use Rattle.yaml_stream.specs.Alone.{possible_more}
use Rattle.yaml_stream.specs.Notes.{AllNoted, Note, Notes, block, key, no_note, noted_after, notes_append, pair, step_notes}
use Rattle.yaml_stream.specs.Orderly.{InOrder, Orderly, Part, SetApart, block_scalar, colon, comma, is_scalar, key_token, line_scalar, list_start, mapping_start, may_be_key, other, part, part_of, property, sets_apart}
use Rattle.yaml_stream.specs.StillKeys.{BehindOne, StillKeys}
use Rattle.yaml_stream.specs.StillKeysSteps.{KeysSoFar}
use Rattle.yaml_stream.proofs.StillKeysSteps.{reached_keys}
use Rattle.yaml_stream.specs.KeysNear.{run_from, stream_start, accepted_run, run_rest}

run_notes : (limits : Limits) (k : ℕ) (s : State) → OfOutcome Notes (run limits k s)
unfolding run
run_notes limits zero s = tt
run_notes limits (suc k) s =
    on_news (λ r. OfOutcome Notes (after_step r (λ t. run limits k t))) (step_notes limits s)
    (λ es t i. after_good Notes Notes es (run limits k t) (λ fs h. notes_append es fs i h) (run_notes limits k t)) (λ es i. i) (λ _ _. tt)

run_names : (P : ℕ → Type 0) (limits : Limits) (k : ℕ) (s : State) (fs : List Event) → run limits k s ≡ scanned fs → ((j : ℕ) → s.count ≤ j → P j) → Names P s.keys → NotesAt P fs
run_names P limits k s fs e b h =
    let c = closes_as (tale limits k s).close (tale limits k s).events fs (sym (run_tale limits k s) ∙ e) in
    rw c.1 at (tale_names P limits k s b h)

-- candidates are possible keys
names_possible : (P : ℕ → Type 0) (ks : List Candidate) → ((k : ℕ) → possible k ks ≡ true → P k) → Names P ks
unfolding possible
names_possible P [] h = tt
names_possible P (Absent ∷ ks) h = names_possible P ks h
names_possible P (Possible required k m ∷ ks) h = (h k (rw (eq-eqb k k refl)), names_possible P ks (λ j e. h j (possible_more j (Possible required k m) ks e)))

module _ (ks : List Candidate) where
  -- the slots from number n on, and what they have become: the same tokens, and before one that is no possible key what stood there
  abbrev Grows : ℕ → List Slot → List Slot → Type 0
  Grows n [] zs = Unit {0}
  Grows n (y ∷ ys) [] = ⊥
  Grows n (y ∷ ys) (z ∷ zs) = (z.token ≡ y.token) × (possible n ks ≡ false → z.before ≡ y.before) × Grows (suc n) ys zs

  grows_same : (n : ℕ) (ys : List Slot) → Grows n ys ys
  grows_same n [] = tt
  grows_same n (y ∷ ys) = (refl, λ _. refl, grows_same (suc n) ys)

  grows_more : (n : ℕ) (ys zs : List Slot) (t : Token) → Grows n ys zs → Grows n ys (zs ++ (slot t [] ∷ []))
  grows_more n [] zs t h = tt
  grows_more n (y ∷ ys) [] t h = absurd h
  grows_more n (y ∷ ys) (z ∷ zs) t h = (h.0, h.1, grows_more (suc n) ys zs t h.2)

  -- a possible key, or a token that came behind the first so many
  abbrev Open : ℕ → ℕ → Type 0
  Open count k = (possible k ks ≡ true) ⊎ (count ≤ k)

  grows_note : (n k : ℕ) (ts : List Token) (ys zs : List Slot) → Open (n + length ys) (n + k) → Grows n ys zs → Grows n ys (note k ts zs)
  unfolding note
  grows_note n k ts [] zs o h = tt
  grows_note n k ts (y ∷ ys) [] o h = absurd h
  grows_note n zero ts (y ∷ ys) (z ∷ zs) o h = (h.0, λ f. by_open f o, h.2)
    where
      by_open : possible n ks ≡ false → Open (n + suc (length ys)) (n + 0) → ts ≡ y.before
      by_open f (inl i) = let j : n + 0 ≡ n = omega arith in true_false (sym (rw j at i) ∙ f)
      by_open f (inr i) = absurd (omega arith)
  grows_note n (suc k) ts (y ∷ ys) (z ∷ zs) o h =
      let i : n + suc (length ys) ≡ suc n + length ys = omega arith in
      let j : n + suc k ≡ suc n + k = omega arith in
      (h.0, h.1, grows_note (suc n) k ts ys zs (rw (i, j) at o) h.2)

  grows_after : (es : List Event) (ys zs : List Slot) → NotesAt (Open (length ys)) es → Grows 0 ys zs → Grows 0 ys (slots zs es)
  unfolding slots
  grows_after [] ys zs o h = h
  grows_after (put t ∷ es) ys zs o h = grows_after es ys (zs ++ (slot t [] ∷ [])) o (grows_more 0 ys zs t h)
  grows_after (put_before k ts ∷ es) ys zs o h =
      let i : 0 + length ys ≡ length ys = omega arith in
      let j : 0 + k ≡ k = omega arith in
      grows_after es ys (note k ts zs) o.1 (grows_note 0 k ts ys zs (rw (i, j) o.0) h)

  -- at least one token for each slot
  grows_flat : (n : ℕ) (ys zs : List Slot) → Grows n ys zs → length ys ≤ length (flat zs)
  grows_flat n [] zs h = omega arith
  grows_flat n (y ∷ ys) [] h = absurd h
  grows_flat n (y ∷ ys) (z ∷ zs) h = omega (arith, flat_length z zs, grows_flat (suc n) ys zs h.2)

-- a key or its ':'
in_pair : Part → Bool
in_pair line_scalar = true
in_pair block_scalar = false
in_pair property = false
in_pair list_start = false
in_pair mapping_start = false
in_pair comma = false
in_pair key_token = false
in_pair colon = true
in_pair other = false

module _ (ks : List Candidate) (allowed : Bool) (line c : ℕ) where
  -- the slots from number n on stand behind p and q: where these are a key and its ':', '[' is a possible key only on a later line
  abbrev OnLater : ℕ → Token → Token → List Slot → Type 0
  OnLater n p q [] = Unit {0}
  OnLater n p q (y ∷ ys) = part_of p ≡ line_scalar → part_of q ≡ colon → part_of y.token ≡ list_start → possible n ks ≡ true → p.end.line < y.token.start.line

  -- and the same of the next slot, behind q and this one
  abbrev Back : ℕ → Token → Token → List Slot → Type 0
  Back n p q [] = Unit {0}
  Back n p q (y ∷ ys) = OnLater n p q (y ∷ ys) × OnLater (suc n) q y.token ys

  back_other : (n : ℕ) (p q : Token) (ys : List Slot) → in_pair (part_of q) ≡ false → Back n p q ys
  unfolding in_pair
  back_other n p q [] h = tt
  back_other n p q (y ∷ ys) h = (λ _ e _ _. true_false (ap in_pair (sym e) ∙ h), behind ys)
    where
      behind : (zs : List Slot) → OnLater (suc n) q y.token zs
      behind [] = tt
      behind (z ∷ zs) = λ e _ _ _. true_false (ap in_pair (sym e) ∙ h)

  -- over the first slot
  back_on : (n : ℕ) (p q : Token) (y : Slot) (ys : List Slot) → Back n p q (y ∷ ys) → BehindOne ks allowed line n y.token ys → Back (suc n) q y.token ys
  back_on n p q y [] b h = tt
  back_on n p q y (x ∷ []) b h = (b.1, tt)
  back_on n p q y (x ∷ z ∷ zs) b h = (b.1, h.1)

  -- over what goes in before it: nothing, or the last is Key
  over_note : {m : Mark} {bs : List Token} (n : ℕ) (p q x : Token) (ys : List Slot) (ts : List Token) → Note m bs → Orderly c p q (bs ++ (x ∷ ts)) → Back n p q ys
      → (p' : Token) × (q' : Token) × Back n p' q' ys × Orderly c p' q' (x ∷ ts)
  unfolding part in_pair
  over_note n p q x ys ts no_note o b = (p, q, b, o)
  over_note {m} n p q x ys ts key o b = (q, empty_token Key m, back_other n q (empty_token Key m) ys refl, o.1)
  over_note {m} n p q x ys ts pair o b = (empty_token FlowMappingStart m, empty_token Key m, back_other n (empty_token FlowMappingStart m) (empty_token Key m) ys refl, o.1.1)
  over_note {m} n p q x ys ts block o b = (empty_token BlockMappingStart m, empty_token Key m, back_other n (empty_token BlockMappingStart m) (empty_token Key m) ys refl, o.1.1)

  -- what sets a scalar apart doesn't come behind it
  scalar_near : (n : ℕ) (x : Token) (ys zs : List Slot) → Grows ks (suc n) ys zs → BehindOne ks allowed line n x ys → is_scalar (part_of x) ≡ true → possible n ks ≡ true
      → SetApart (flat zs) ⊎ (length (flat zs) ≤ c) → length ys ≤ c
  unfolding flat
  scalar_near n x ys zs g h i e (inr f) = omega (arith, grows_flat ks (suc n) ys zs g)
  scalar_near n x [] zs g h i e (inl f) = omega arith
  scalar_near n x (y ∷ ys) [] g h i e (inl f) = absurd g
  scalar_near n x (y ∷ ys) (z ∷ zs) g h i e (inl f) =
      let k = h.0 i e in
      let w : z.before ≡ [] = g.1 k.2 ∙ k.1 in
      let a : sets_apart (part_of z.token) ≡ true = rw w at f in
      true_false (sym a ∙ rw g.0 k.0)

  key_in_order : (n : ℕ) (p q : Token) (y : Slot) (ys zs : List Slot) → Grows ks (suc n) ys zs → BehindOne ks allowed line n y.token ys → Back n p q (y ∷ ys) → possible n ks ≡ true
      → (k : Part) → part_of y.token ≡ k → may_be_key k ≡ true → InOrder c k p q y.token (flat zs) → length ys ≤ c
  unfolding may_be_key InOrder is_scalar
  key_in_order n p q y ys zs g h b e line_scalar f m s = scalar_near n y.token ys zs g h (rw f) e s
  key_in_order n p q y ys zs g h b e block_scalar f m s = scalar_near n y.token ys zs g h (rw f) e s
  key_in_order n p q y ys zs g h b e property f m s = absurd s
  key_in_order n p q y ys zs g h b e list_start f m s = absurd (omega (arith, b.0 s.0 s.1 f e, s.2))
  key_in_order n p q y ys zs g h b e mapping_start f m s = absurd s
  key_in_order n p q y ys zs g h b e comma f m s = true_false (sym m)
  key_in_order n p q y ys zs g h b e key_token f m s = true_false (sym m)
  key_in_order n p q y ys zs g h b e colon f m s = true_false (sym m)
  key_in_order n p q y ys zs g h b e other f m s = true_false (sym m)

  -- d slots further on
  near : (n d : ℕ) (p q : Token) (ys zs : List Slot) → AllNoted zs → Grows ks n ys zs → StillKeys ks allowed line n ys → Back n p q ys → Orderly c p q (flat zs)
      → possible (n + d) ks ≡ true → length ys ≤ suc (d + c)
  unfolding flat
  near n d p q [] zs a g t b o e = omega arith
  near n d p q (y ∷ ys) [] a g t b o e = absurd g
  near n zero p q (y ∷ ys) (z ∷ zs) a g t b o e =
      let f = over_note n p q y.token (y ∷ ys) (flat zs) a.0 (rw g.0 at o) b in
      let i : n + 0 ≡ n = omega arith in
      let j = rw i at e in
      omega (arith, key_in_order n f.0 f.1 y ys zs g.2 t.1 f.2 j (part_of y.token) refl (t.0 j) f.3.0)
  near n (suc d) p q (y ∷ ys) (z ∷ zs) a g t b o e =
      let f = over_note n p q y.token (y ∷ ys) (flat zs) a.0 (rw g.0 at o) b in
      let i : n + suc d ≡ suc n + d = omega arith in
      omega (arith, near (suc n) d f.1 y.token ys zs a.1 g.2 t.2 (back_on n f.0 f.1 y ys f.2 t.1) f.3.1 (rw i at e))

-- what is put in are notes
all_noted : {limits : Limits} {bytes : List ℕ} {ts : List Token} (a : Accepts limits bytes ts) → AllNoted (slots [] a.events)
unfolding Notes
all_noted {limits} {bytes} a =
    let cs = (accepted_run a).text in
    let f = run_rest (accepted_run a) here in
    let h : Notes f.0 = rw f.1 at (run_notes limits (suc (length cs)) (begin cs)) in
    noted_after a.events [] [] tt (rw a.accepted at (outcome_placed limits bytes)) (rw f.2 h) tt

-- the slots ys of a state, and what they have become at the end
still_near : (limits : Limits) (c : ℕ) (t : State) (ys : List Slot) (fs : List Event) → run_from limits t ≡ scanned fs → KeysSoFar t ys → AllNoted (slots ys fs)
    → Orderly c stream_start stream_start (flat (slots ys fs)) → (n : ℕ) → possible n t.keys ≡ true → t.count ≤ suc (n + c)
unfolding part in_pair
still_near limits c t ys fs f h a o n e =
    let ks = t.keys in
    let later = run_names (Open ks (length ys)) limits (suc (left t.place)) t fs f (λ k i. inr (omega (arith, h.counted))) (names_possible _ ks (λ k i. inl i)) in
    let g = grows_after ks fs ys ys later (grows_same ks 0 ys) in
    let b = back_other ks t.simple_key_allowed (mark_of t).line c 0 stream_start stream_start ys refl in
    let i : 0 + n ≡ n = omega arith in
    omega (arith, h.counted, near ks t.simple_key_allowed (mark_of t).line c 0 n stream_start stream_start ys (slots ys fs) a g h.still b o (rw i e))

-- in the run of an accepted text whose list is orderly a candidate has at most c tokens behind it
pub key_near : {limits : Limits} {bytes : List ℕ} {ts : List Token} {es : List Event} {t : State} (c : ℕ) (a : Accepts limits bytes ts) → Orderly c stream_start stream_start ts
    → StepsReach limits (begin (accepted_run a).text) es t → (n : ℕ) → possible n t.keys ≡ true → t.count ≤ suc (n + c)
unfolding slots
key_near {limits} {es = es} {t = t} c a orderly r n e =
    let f = run_rest (accepted_run a) r in
    let ys = slots (slot stream_start [] ∷ []) es in
    let i : slots [] a.events ≡ slots ys f.0 = ap (λ (gs : List Event). slots [] gs) f.2 ∙ slots_append (slot stream_start [] ∷ []) es f.0 in
    still_near limits c t ys f.0 f.1 (reached_keys _ r) (rw i at (all_noted a)) (rw (a.list, i) at orderly) n e

-- StreamStart and the tokens said since
pub reached_count : {limits : Limits} {es : List Event} {t : State} (cs : List ℕ) → StepsReach limits (begin cs) es t → t.count ≡ suc (puts es)
reached_count {es = es} cs r = omega (arith, (reached_keys cs r).counted, slots_length (slot stream_start [] ∷ []) es)
