-- One turn of each loop over text: one unfolding of its definition.
use Rattle.std.specs.Prelude.{◌*◌, ◌+◌, ◌-◌, suc, ℕ, Bool, ◌&&◌, ◌||◌, false, true, List, [], ◌∷◌, ◌≡◌, refl, eqb, ltb}
use Rattle.yaml_text.specs.declared.Mark.{Mark}
use Rattle.yaml_lexeme.specs.declared.Before.{Before}
use Rattle.yaml_text.specs.Pick.{pick}
use Rattle.yaml_text.specs.Char.{'%', '0', space}
use Rattle.yaml_text.specs.Class.{is_blank, is_break, is_digit, is_non_space, peek}
use Rattle.yaml_text.specs.Mark.{along, before_run, ends_line, here, nothing_at, over}
use Rattle.yaml_text.specs.Refusal.{◌>>=◌, before_read, got, refused}
use Rattle.yaml_lexeme.specs.Gap.{after_gap_turn, blanks, gap_turn, is_leading, skip_gap, to_break}
use Rattle.yaml_lexeme.specs.Plain.{glue, plain_stops, plain_text}
use Rattle.yaml_lexeme.specs.Quoted.{Mode, Quote, after_turn, quoted_run, quoted_turn}
use Rattle.yaml_lexeme.specs.Block.{Layout, Line, after_content, content, content_end, content_turn, margin}
use Rattle.yaml_lexeme.specs.Tag.{percent, uri_run}
use Rattle.yaml_lexeme.specs.Directive.{parameters, version_digits}

pub gap_turned : (flow allowed : Bool) (b : Before) (m : Mark) (c : ℕ) (cs : List ℕ)
    → skip_gap flow allowed b m (c ∷ cs)
    ≡ after_gap_turn (gap_turn flow b m c) (λ b' allows. skip_gap flow (allowed || allows) b' (over m c (peek cs 0)) cs)
    (record { place = here m (c ∷ cs); simple_key_allowed = allowed; leading_whitespace = is_leading b })
unfolding skip_gap
gap_turned flow allowed b m c cs = refl

pub blanks_more : (m : Mark) (c : ℕ) (cs : List ℕ) → is_blank c ≡ true → blanks m (c ∷ cs) ≡ blanks (along m) cs
unfolding blanks
blanks_more m c cs e = rw (e, blanks)

pub blanks_stop : (m : Mark) (c : ℕ) (cs : List ℕ) → is_blank c ≡ false → blanks m (c ∷ cs) ≡ here m (c ∷ cs)
unfolding blanks
blanks_stop m c cs e = rw (e, blanks)

pub to_break_more : (m : Mark) (c : ℕ) (cs : List ℕ) → is_break c ≡ false → to_break m (c ∷ cs) ≡ to_break (along m) cs
unfolding to_break
to_break_more m c cs e = rw (e, to_break)

pub to_break_stop : (m : Mark) (c : ℕ) (cs : List ℕ) → is_break c ≡ true → to_break m (c ∷ cs) ≡ here m (c ∷ cs)
unfolding to_break
to_break_stop m c cs e = rw (e, to_break)

pub plain_stop : (flow blank : Bool) (m : Mark) (c : ℕ) (cs : List ℕ) → plain_stops flow blank c (peek cs 0) ≡ true
    → plain_text flow blank m (c ∷ cs) ≡ nothing_at (here m (c ∷ cs))
unfolding plain_text
plain_stop flow blank m c cs e = rw (e, plain_text)

pub plain_more : (flow blank : Bool) (m : Mark) (c : ℕ) (cs : List ℕ) → plain_stops flow blank c (peek cs 0) ≡ false
    → plain_text flow blank m (c ∷ cs) ≡ glue c (here m (c ∷ cs)) (plain_text flow (is_blank c) (along m) cs)
unfolding plain_text
plain_more flow blank m c cs e = rw (e, plain_text)

pub quoted_turned : (q : Quote) (b : Mode) (m : Mark) (c : ℕ) (cs : List ℕ)
    → quoted_run q b 0 m (c ∷ cs)
    ≡ after_turn (quoted_turn q b m c cs) (λ b' n. quoted_run q b' n (over m c (peek cs 0)) cs) (here (along m) cs)
unfolding quoted_run
quoted_turned q b m c cs = refl

pub content_turned : (b : Layout) (l : Line) (m : Mark) (c : ℕ) (cs : List ℕ)
    → content b l m (c ∷ cs)
    ≡ after_content (content_turn b l m c cs) (λ l'. content b l' (over m c (peek cs 0)) cs) (content_end b l (here m (c ∷ cs)))
unfolding content
content_turned b l m c cs = refl

pub margin_more : (column n : ℕ) (m : Mark) (c : ℕ) (cs : List ℕ) → ((eqb c space && ltb m.col column) || is_break c) ≡ true
    → margin column n m (c ∷ cs) ≡ margin column (n + ends_line c (peek cs 0)) (over m c (peek cs 0)) cs
unfolding margin
margin_more column n m c cs e = rw (e, margin)

pub margin_stop : (column n : ℕ) (m : Mark) (c : ℕ) (cs : List ℕ) → ((eqb c space && ltb m.col column) || is_break c) ≡ false
    → margin column n m (c ∷ cs) ≡ record { breaks = n; place = here m (c ∷ cs) }
unfolding margin
margin_stop column n m c cs e = rw (e, margin)

pub uri_stop : (p : ℕ → Bool) (start m : Mark) (c : ℕ) (cs : List ℕ) → p c ≡ false → uri_run p start 0 m (c ∷ cs) ≡ got (nothing_at (here m (c ∷ cs)))
unfolding uri_run
uri_stop p start m c cs e = rw (e, uri_run)

pub uri_more : (p : ℕ → Bool) (start m : Mark) (c : ℕ) (cs : List ℕ) → p c ≡ true → eqb c '%' ≡ false
    → uri_run p start 0 m (c ∷ cs) ≡ before_read (c ∷ []) (uri_run p start 0 (along m) cs)
unfolding uri_run
uri_more p start m c cs e f = rw (e, f, uri_run)

pub uri_escape : (p : ℕ → Bool) (start m : Mark) (c : ℕ) (cs : List ℕ) → p c ≡ true → eqb c '%' ≡ true
    → uri_run p start 0 m (c ∷ cs)
    ≡ percent start (c ∷ cs) >>= λ e. before_read (e.char ∷ []) (uri_run p start e.took (along m) cs)
unfolding uri_run
uri_escape p start m c cs e f = rw (e, f, uri_run)

pub uri_passed : (p : ℕ → Bool) (start : Mark) (k : ℕ) (m : Mark) (c : ℕ) (cs : List ℕ) → uri_run p start (suc k) m (c ∷ cs) ≡ uri_run p start k (along m) cs
unfolding uri_run
uri_passed p start k m c cs = refl

pub digits_more : (start : Mark) (n v : ℕ) (m : Mark) (c : ℕ) (cs : List ℕ) → is_digit c ≡ true → ltb n 9 ≡ true
    → version_digits start n v m (c ∷ cs) ≡ version_digits start (suc n) (v * 10 + (c - '0')) (along m) cs
unfolding version_digits
digits_more start n v m c cs e f = rw (e, f, version_digits)

pub digits_long : (start : Mark) (n v : ℕ) (m : Mark) (c : ℕ) (cs : List ℕ) → is_digit c ≡ true → ltb n 9 ≡ false
    → version_digits start n v m (c ∷ cs) ≡ refused 14 start
unfolding version_digits
digits_long start n v m c cs e f = rw (e, f, version_digits)

pub digits_stop : (start : Mark) (n v : ℕ) (m : Mark) (c : ℕ) (cs : List ℕ) → is_digit c ≡ false
    → version_digits start n v m (c ∷ cs) ≡ got (record { value = v; place = here m (c ∷ cs) })
unfolding version_digits
digits_stop start n v m c cs e = rw (e, version_digits)

pub parameters_blank : (some blank : Bool) (m : Mark) (c : ℕ) (cs : List ℕ) → is_blank c ≡ true
    → parameters some blank m (c ∷ cs) ≡ parameters some true (along m) cs
unfolding parameters
parameters_blank some blank m c cs e = rw (e, parameters)

pub parameters_more : (some blank : Bool) (m : Mark) (c : ℕ) (cs : List ℕ) → is_blank c ≡ false → is_non_space c ≡ true
    → parameters some blank m (c ∷ cs) ≡ before_run (pick (some && blank) (space ∷ c ∷ []) (c ∷ [])) (parameters true false (along m) cs)
unfolding parameters
parameters_more some blank m c cs e f = rw (e, f, parameters)

pub parameters_stop : (some blank : Bool) (m : Mark) (c : ℕ) (cs : List ℕ) → is_blank c ≡ false → is_non_space c ≡ false
    → parameters some blank m (c ∷ cs) ≡ nothing_at (here m (c ∷ cs))
unfolding parameters
parameters_stop some blank m c cs e f = rw (e, f, parameters)
