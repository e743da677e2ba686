-- What a test comes to, from a fact.
use borrow.Author.Tests.{eq-eqb, le-leb, le-ltb, lt-leb, lt-ltb, ne_eqb}

pub ruleset cases = (lt-ltb, le-ltb, le-leb, lt-leb, eq-eqb, ne_eqb)
