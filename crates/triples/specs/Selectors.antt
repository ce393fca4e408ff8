-- Which triples a selector matches. Assumes nothing.
--     accepts entry n     the entry is 0, which stands for any number, or it is n
use Rattle.std.specs.Prelude.{ℕ, Bool, false, cond, not, ◌&&◌, ◌||◌, Some, None, Option, ◌==◌, nat_lt}
use Rattle.triples.specs.declared.position.Position.{Position}
use Rattle.triples.specs.declared.position.Position.TheVariants.{Subject, Property, Object}
use Rattle.triples.specs.declared.selector.Selector.{Selector}
use Rattle.triples.specs.declared.triple.Triple.{Triple}

-- the entry of a selector that every number fits
abbrev pub any : ℕ
any = 0

-- n fits the entry: the entry is any, or n itself
abbrev pub accepts : ℕ → ℕ → Bool
accepts entry n = entry == any || entry == n

-- each number of t fits the selector's entry at its position
abbrev pub matches : Selector → Triple → Bool
matches s t =
    accepts s.subject t.subject
    && (accepts s.property t.property && accepts s.object t.object)

-- s with n as its entry at the position
abbrev pub select : Selector → Position → ℕ → Selector
select s Subject n = record { subject = n; property = s.property; object = s.object }
select s Property n = record { subject = s.subject; property = n; object = s.object }
select s Object n = record { subject = s.subject; property = s.property; object = n }

-- s read as a triple
abbrev pub floor : Selector → Triple
floor s = record { subject = s.subject; property = s.property; object = s.object }

-- the numbers of a triple as entries
abbrev pub selector_of : Triple → Selector
selector_of t = record { subject = t.subject; property = t.property; object = t.object }

-- t is above s at the first position where they differ, and s has no any up to there
abbrev pub passed : Selector → Triple → Bool
passed s t =
    cond (s.subject == any) false
    (cond (s.subject == t.subject)
    (cond (s.property == any) false
    (cond (s.property == t.property)
    (not (s.object == any) && nat_lt s.object t.object)
    (nat_lt s.property t.property)))
    (nat_lt s.subject t.subject))

-- where one seek begins that settles the least number at the position from the bound on: with the entries
-- before the position known, they and the bound; with the position's own entry known, the least triple; else
-- nowhere
abbrev pub aim : Selector → Position → ℕ → Option Triple
aim s Subject bound = Some (record { subject = bound; property = 0; object = 0 })
aim s Property bound =
    cond (s.subject == any)
    (cond (s.property == any) None (Some (record { subject = 0; property = 0; object = 0 })))
    (Some (record { subject = s.subject; property = bound; object = 0 }))
aim s Object bound =
    cond (s.subject == any || s.property == any)
    (cond (s.object == any) None (Some (record { subject = 0; property = 0; object = 0 })))
    (Some (record { subject = s.subject; property = s.property; object = bound }))
