-- Theorems about specs/StillKeysSteps, and what rests on them.
use Rattle.std.specs.Prelude.{◌+◌, ◌<◌, ◌≤◌, ℕ, Bool, false, true, List, [], ◌++◌, ◌∷◌, ◌⊎◌, ◌≡◌, refl, drop, length}
use Rattle.std.proofs.Common.{inl, inr, ◌∙◌, ap, sym, arith, length-append, eq-eqb, ne_eqb}
use Rattle.yaml_text.specs.declared.Mark.{Mark}
use Rattle.yaml_text.specs.Mark.{origin}
use Rattle.yaml_text.specs.Test.{on_pick, true_false}
use Rattle.yaml_text.specs.All.{All, all_both, all_got, all_weak}
use Rattle.yaml_lexeme.specs.Token.{StreamStart, Token, empty_token}
use Rattle.yaml_scan.specs.declared.Candidate.{Candidate}
use Rattle.yaml_scan.specs.declared.Candidate.TheVariants.{Absent, Possible}
use Rattle.yaml_scan.specs.declared.Limits.{Limits}
use Rattle.yaml_scan.specs.Keys.{set_key, top_key}
use Rattle.yaml_scan.specs.State.{Event, News, State, block_ends, ends_with, goes_on, mark_of, put, put_before, puts, save_key}
use Rattle.yaml_scan.specs.Slots.{Slot, note, slot, slots}
use Rattle.yaml_scan.specs.SlotLaws.{note_length, slots_append, slots_length}
use Rattle.yaml_scan.specs.Scan.{begin, step}
use Rattle.yaml_scan.specs.Candidates.{Fall, fall_less}
use Rattle.yaml_scan.specs.Runs.{StepsReach, here, puts_ends, then_step}
use Rattle.yaml_stream.specs.Stream.{possible}
use Rattle.yaml_stream.specs.Kept.{puts_append}
use Rattle.yaml_stream.specs.Alone.{LastOf}
use Rattle.yaml_stream.proofs.Alone.{not_outer, step_last}
use Rattle.yaml_stream.specs.Levels.{fall_not}
use Rattle.yaml_stream.specs.Orderly.{Part, block_scalar, colon, comma, is_scalar, key_token, line_scalar, list_start, mapping_start, may_be_key, other, part, part_of, property, sets_apart}
use Rattle.yaml_stream.specs.StillKeys.{Added, Quiet, StillKeys, still_gap, still_more, still_note}
use Rattle.yaml_stream.specs.FetchLeaves.{FetchLeaves, Fillers, LeavesIn, StepLeaves, a_bracket, a_rest, a_text, a_use, end_fillers}
use Rattle.yaml_stream.proofs.FetchLeaves.{step_leaves}
use Rattle.yaml_stream.specs.StillKeysSteps.{KeysSoFar, KeysSoFarIn}

-- of a state and the slots so far
abbrev StillKeysOf : State → List Slot → Type 0
StillKeysOf s ys = StillKeys s.keys s.simple_key_allowed (mark_of s).line 0 ys

-- token c, from the state v on to the state t
abbrev AddedTo : State → ℕ → Token → State → Type 0
AddedTo v c k t = Added v.keys v.simple_key_allowed (mark_of v).line c k t.keys t.simple_key_allowed (mark_of t).line

still_next : {ks ks' : List Candidate} {a a' : Bool} {l l' c : ℕ} (ys : List Slot) (k : Token) → length ys ≡ c → Added ks a l c k ks' a' l' → StillKeys ks a l 0 ys
    → StillKeys ks' a' l' 0 (ys ++ (slot k [] ∷ []))
still_next {c} ys k e h = let f : 0 + length ys ≡ c = omega arith in still_more 0 ys k (rw f h)

-- a scalar may be a key, and what may be one sets none apart
part_laws : (p : Part) → (is_scalar p ≡ true → may_be_key p ≡ true) × (may_be_key p ≡ true → sets_apart p ≡ false)
unfolding is_scalar may_be_key sets_apart
part_laws line_scalar = (λ _. refl, λ _. refl)
part_laws block_scalar = (λ _. refl, λ _. refl)
part_laws property = (λ _. refl, λ _. refl)
part_laws list_start = (λ _. refl, λ _. refl)
part_laws mapping_start = (λ _. refl, λ _. refl)
part_laws comma = (λ e. e, λ e. true_false (sym e))
part_laws key_token = (λ e. e, λ e. true_false (sym e))
part_laws colon = (λ e. e, λ e. true_false (sym e))
part_laws other = (λ e. e, λ _. refl)

not_yet_outer : (c : ℕ) (ks : List Candidate) → Fall c ks → possible c (drop 1 ks) ≡ false
not_yet_outer c ks f = not_outer c ks (fall_not c c ks f (omega arith))

fills_joins : (p : Part) → (p ≡ other) ⊎ (p ≡ mapping_start) → (sets_apart p ≡ false) × (is_scalar p ≡ false)
unfolding sets_apart is_scalar
fills_joins p (inl e) = rw e (refl, refl)
fills_joins p (inr e) = rw e (refl, refl)

fills_added : (v : State) (c : ℕ) (k : Token) → Fall c v.keys → (part_of k ≡ other) ⊎ (part_of k ≡ mapping_start) → AddedTo v c k v
unfolding sets_apart is_scalar
fills_added v c k f h =
    let not_yet = fall_not c c v.keys f (omega arith) in
    let j = fills_joins (part_of k) h in
    record {
      shrinks = λ i b e. e;
      stays = λ i b e p. (j.0, not_yet);
      at_colon = λ x e q. true_false (sym (ap sets_apart e) ∙ j.0);
      at_list = λ x e q p. true_false (sym p ∙ not_yet);
      new_key = λ p. true_false (sym p ∙ not_yet);
      outer = λ e. not_yet_outer c v.keys f;
      quiet = λ e. true_false (sym (ap is_scalar e) ∙ j.1);
    }

still_fillers : (v : State) (es : List Event) (ys : List Slot) → Fillers es → Fall (length ys) v.keys → StillKeysOf v ys → StillKeysOf v (slots ys es)
unfolding slots
still_fillers v [] ys g f h = h
still_fillers v (put k ∷ es) ys g f h =
    let e = length-append ys (slot k [] ∷ []) in
    still_fillers v es (ys ++ (slot k [] ∷ [])) g.1 (fall_less (length ys) _ v.keys (omega arith) f) (still_next ys k refl (fills_added v (length ys) k f g.0) h)
still_fillers v (put_before n ts ∷ es) ys g f h = absurd g

rest_added : (v t : State) (c : ℕ) (k : Token) → Fall c v.keys → (mark_of v).line ≤ (mark_of t).line → may_be_key (part_of k) ≡ false
    → (part_of k ≡ colon → (t.simple_key_allowed ≡ false) ⊎ (v.simple_key_allowed ≡ true)) → ((i : ℕ) → possible i t.keys ≡ possible i (drop 1 v.keys)) → AddedTo v c k t
unfolding may_be_key
rest_added v t c k f b m a g = record {
  shrinks = λ i _ e. g i ∙ not_outer i v.keys e;
  stays = λ i _ e p. true_false (sym p ∙ (g i ∙ e));
  at_colon = λ x e q. by_allowed x (a e) q;
  at_list = λ x e q p. true_false (sym (ap may_be_key e) ∙ m);
  new_key = λ p. true_false (sym p ∙ (g c ∙ not_yet_outer c v.keys f));
  outer = λ e. true_false (sym ((part_laws (part_of k)).0 e) ∙ m);
  quiet = λ e. true_false (sym (ap may_be_key e) ∙ m);
}
  where
    by_allowed : (x : Token) → (t.simple_key_allowed ≡ false) ⊎ (v.simple_key_allowed ≡ true) → Quiet v.simple_key_allowed (mark_of v).line x
        → Quiet t.simple_key_allowed (mark_of t).line x
    by_allowed x (inl e) q = (omega (arith, q.0), inl e)
    by_allowed x (inr e) (c, inl d) = true_false (sym e ∙ d)
    by_allowed x (inr e) (c, inr d) = (omega arith, inr (omega arith))

-- it is this level's new one, or the candidates stay
record Saves (v : State) (ks : List Candidate) : Type 0 where
  older : (i : ℕ) → i < v.count → possible i v.keys ≡ false → possible i ks ≡ false
  right_before : (i : ℕ) → i < v.count → possible i (drop 1 v.keys) ≡ false → possible i ks ≡ true → possible v.count ks ≡ false
  allowed : possible v.count ks ≡ true → v.simple_key_allowed ≡ true

saves_new : (v : State) (required : Bool) (m : Mark) → v.simple_key_allowed ≡ true → Saves v (Possible required v.count m ∷ drop 1 v.keys)
unfolding possible
saves_new v required m a = record {
  older = λ i b e. rw (ne_eqb i v.count (λ f. omega arith)) (not_outer i v.keys e);
  right_before = λ i b e p. let f = rw (ne_eqb i v.count (λ f. omega arith)) at p in true_false (sym f ∙ e);
  allowed = λ _. a;
}

saves_none : (v : State) → Fall v.count v.keys → Saves v v.keys
saves_none v f =
    let not_yet = fall_not v.count v.count v.keys f (omega arith) in
    record { older = λ i b e. e; right_before = λ i b e p. not_yet; allowed = λ p. true_false (sym p ∙ not_yet) }

saves : (v : State) → Fall v.count v.keys → Saves v (save_key v).keys × (possible v.count (drop 1 (save_key v).keys) ≡ false)
unfolding save_key
saves v f =
    let e = not_yet_outer v.count v.keys f in
    on_pick (λ (t : State). Saves v t.keys × (possible v.count (drop 1 t.keys) ≡ false)) v.simple_key_allowed (λ a. (saves_new v _ (mark_of v) a, e)) (λ _. (saves_none v f, e))

new_added : (v t : State) (k : Token) → Saves v t.keys → may_be_key (part_of k) ≡ true → (part_of k ≡ list_start → k.start ≡ mark_of v)
    → (is_scalar (part_of k) ≡ true → possible v.count (drop 1 t.keys) ≡ false) → (part_of k ≡ line_scalar → Quiet t.simple_key_allowed (mark_of t).line k)
    → AddedTo v v.count k t
unfolding may_be_key
new_added v t k h m l o q = record {
  shrinks = h.older;
  stays = λ i b e p. ((part_laws (part_of k)).1 m, h.right_before i (omega arith) e p);
  at_colon = λ x e _. true_false (sym m ∙ ap may_be_key e);
  at_list = λ x e q p. by_quiet x (l e) (h.allowed p) q;
  new_key = λ _. m;
  outer = o;
  quiet = q;
}
  where
    by_quiet : (x : Token) → k.start ≡ mark_of v → v.simple_key_allowed ≡ true → Quiet v.simple_key_allowed (mark_of v).line x → x.end.line < k.start.line
    by_quiet x e a (b, inl d) = true_false (sym a ∙ d)
    by_quiet x e a (b, inr d) = rw e d

-- scalars, tags, anchors and aliases
text_added : (v t : State) (k : Token) → Fall v.count v.keys → (is_scalar (part_of k) ≡ true) ⊎ (part_of k ≡ property)
    → (part_of k ≡ line_scalar → (t.simple_key_allowed ≡ false) × (k.end ≡ mark_of t)) → t.keys ≡ (save_key v).keys → AddedTo v v.count k t
unfolding is_scalar may_be_key
text_added v t k f p q e = new_added v t k (rw e (saves v f).0) (may p) (λ i. not_list p i) (λ _. rw e (saves v f).1) quiet
  where
    may : (is_scalar (part_of k) ≡ true) ⊎ (part_of k ≡ property) → may_be_key (part_of k) ≡ true
    may (inl h) = (part_laws (part_of k)).0 h
    may (inr h) = ap may_be_key h

    not_list : {A : Type 0} → (is_scalar (part_of k) ≡ true) ⊎ (part_of k ≡ property) → part_of k ≡ list_start → A
    not_list (inl h) i = true_false (sym h ∙ ap is_scalar i)
    not_list (inr h) i = let z : ◌≡◌ {A = Bool} true false = cc in true_false z

    quiet : part_of k ≡ line_scalar → Quiet t.simple_key_allowed (mark_of t).line k
    quiet i = let l = ap (λ (m : Mark). m.line) (q i).1 in (omega arith, inl (q i).0)

-- '[' and '{'
bracket_added : (v t : State) (k : Token) → Fall v.count v.keys → (part_of k ≡ list_start) ⊎ (part_of k ≡ mapping_start) → k.start ≡ mark_of v → t.keys ≡ Absent ∷ (save_key v).keys
    → AddedTo v v.count k t
unfolding possible is_scalar may_be_key
bracket_added v t k f p m e =
    let h = (saves v f).0 in
    let b : Saves v (Absent ∷ (save_key v).keys) = record { older = h.older; right_before = h.right_before; allowed = h.allowed } in
    let no_scalar = (may p).1 in
    new_added v t k (rw e b) (may p).0 (λ _. m) (λ i. true_false (sym i ∙ no_scalar)) (λ i. true_false (sym (ap is_scalar i) ∙ no_scalar))
  where
    may : (part_of k ≡ list_start) ⊎ (part_of k ≡ mapping_start) → (may_be_key (part_of k) ≡ true) × (is_scalar (part_of k) ≡ false)
    may (inl h) = rw h (refl, refl)
    may (inr h) = rw h (refl, refl)

top_possible : {required : Bool} {n : ℕ} {m : Mark} (ks : List Candidate) → top_key ks ≡ Possible required n m → possible n ks ≡ true
unfolding possible top_key
top_possible [] e = let z : ◌≡◌ {A = Bool} true false = cc in true_false z
top_possible {n} (c ∷ ks) e = rw (e, eq-eqb n n refl)

without_top : (v t : State) → (t.keys ≡ set_key Absent v.keys) ⊎ (t.keys ≡ drop 1 v.keys) → (i : ℕ) → possible i t.keys ≡ possible i (drop 1 v.keys)
unfolding possible
without_top v t (inl e) i = rw e
without_top v t (inr e) i = rw e

-- behind the ends of blocks
fetched_still : {v t : State} {es : List Event} (ys : List Slot) → FetchLeaves v es t → Fall v.count v.keys → length ys ≡ v.count → (mark_of v).line ≤ (mark_of t).line
    → StillKeysOf v ys → StillKeysOf t (slots ys es)
unfolding slots may_be_key
fetched_still {v} {t} ys (a_text k p q e) f c b h = still_next ys k c (text_added v t k f p q e) h
fetched_still {v} {t} ys (a_bracket k p m e) f c b h = still_next ys k c (bracket_added v t k f p m e) h
fetched_still {v} {t} ys (a_use {n = n} {ts = ts} k p i a e) f c b h =
    let z : 0 + n ≡ n = omega arith in
    still_next (note n ts ys) k (note_length n ts ys ∙ c) (rest_added v t v.count k f b (ap may_be_key p) (λ _. inl a) (without_top v t (inl e)))
    (still_note v.keys v.simple_key_allowed (mark_of v).line 0 n ts ys (rw z (top_possible v.keys i)) h)
fetched_still {v} {t} ys (a_rest fs k g m a e) f c b h =
    let f' = fall_less v.count (length (slots ys fs)) v.keys (omega (arith, slots_length ys fs)) f in
    rw (slots_append ys fs (put k ∷ []))
    (still_next (slots ys fs) k refl (rest_added v t (length (slots ys fs)) k f' b m a (without_top v t e)) (still_fillers v fs ys g (rw c f) h))

step_still : {s t : State} {es : List Event} (ys : List Slot) → KeysSoFar s ys → StepLeaves s es t → StillKeysOf t (slots ys es)
step_still {s} {t} {es} ys h g =
    let v = g.before_token in
    let bs = block_ends g.ended (mark_of v) in
    let f = fall_less s.count v.count v.keys (omega (arith, g.counted)) (g.falls s.count h.falls) in
    let b : length (slots ys bs) ≡ v.count = omega (arith, slots_length ys bs, puts_ends g.ended (mark_of v), g.counted, h.counted) in
    let k = still_gap s.keys v.keys g.shrinks g.shrinks_outer g.calm g.line_on 0 ys h.still in
    rw (g.events, slots_append ys bs g.said)
    (fetched_still (slots ys bs) g.fetched f b g.line_behind (still_fillers v bs ys (end_fillers g.ended (mark_of v)) (rw h.counted (g.falls s.count h.falls)) k))

pub step_keys : (limits : Limits) (s : State) (ys : List Slot) → KeysSoFar s ys → All News (KeysSoFarIn ys) (step limits s)
unfolding puts
step_keys limits s ys h = all_weak by_news (all_both (step_leaves limits s) (step_last 0 limits s))
  where
    by_news : (w : News) → LeavesIn s w × LastOf 0 s w → KeysSoFarIn ys w
    by_news (goes_on es t) g =
        let l = g.1.1 in
        let e = ap puts l.is in
        record {
          falls = rw g.1.2 (l.falls h.falls);
          counted = omega (arith, slots_length ys es, h.counted, l.numbered, puts_append l.front (put l.last ∷ []), g.1.2);
          still = step_still ys h g.0;
        }
    by_news (ends_with es) g = tt

-- every state that a run reaches
pub reached_keys : {limits : Limits} {es : List Event} {t : State} (cs : List ℕ) → StepsReach limits (begin cs) es t
    → KeysSoFar t (slots (slot (empty_token StreamStart origin) [] ∷ []) es)
unfolding slots possible part is_scalar
reached_keys {limits} cs r = by_steps r
  where
    by_steps : {es : List Event} {t : State} → StepsReach limits (begin cs) es t → KeysSoFar t (slots (slot (empty_token StreamStart origin) [] ∷ []) es)
    by_steps here = record { falls = tt; counted = refl; still = (λ p. true_false (sym p), (λ e. true_false (sym e), λ e. true_false (sym (ap is_scalar e))), tt) }
    by_steps (then_step {es = es} {fs = fs} {t = t} r e) =
        rw (slots_append (slot (empty_token StreamStart origin) [] ∷ []) es fs) (all_got (step_keys limits t _ (by_steps r)) e)
