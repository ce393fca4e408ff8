-- The first word is the name, and the element is put behind the list of that name.
use Rattle.std.proofs.Common.{◌≡◌, List, [], ◌∷◌, ◌++◌, Ok, Err, Option, Result, codes, refl, sym, ap}
use Rattle.std.proofs.Common.{◌∙◌, inl, inr, arith, rules}
use Rattle.std.proofs.lemmas.Slice.Eq.{text_from_reads}
use Rattle.feedtrace.specs.declared.expected.Expected.{Expected}
use Rattle.feedtrace.specs.Drafts.{Draft, properties, drafted, Drafted, added}
use Rattle.feedtrace.specs.TableLines.{Pushed}
use Rattle.feedtrace.proofs.table_line.take_entry.Goals as goal

-- an element that is put behind its list is taken into the draft that is made of the list
Drafted-from_pushed : {A U : Type 0} (wanted : Expected) (make : List A → Draft) (text : List _)
    (m : Option A) (xs ys : List A)
    (r : Result U Expected) → drafted (make xs) text ≡ added xs make m → Pushed wanted m xs r ys
    → Drafted wanted (make xs) text r (make ys)
Drafted-from_pushed wanted make text m xs ys (Ok u) takes put = takes ∙ rw (put.1.0, put.1.1)
Drafted-from_pushed wanted make text m xs ys (Err e) takes put = (
  ap make put.0,
  elim put.1 [
    | inl none ↦ inl (none.0, takes ∙ rw none.1)
    | inr some ↦ inr (some.0, (make (xs ++ some.1.0 ∷ []), takes ∙ rw some.1.1))
  ],
)

pub returns-in-property : goal.returns-in-property
returns-in-property c =
    let is = text_from_reads c.word.result.now (codes "property") (omega arith) (search rules) in
    let table = c.args.table.now in
    let put = c.push-in-property in
    λ top. Drafted-from_pushed c.args.wanted (λ es. properties top es table.pairs.items) c.args.text.now
    c.entry.result
    table.directory.items _ put.result
    (rw (sym c.word.ensures.first ∙ is, ← c.word.ensures.rest, ← c.entry.ensures.said) refl) put.ensures

pub returns-in-pair : goal.returns-in-pair
returns-in-pair c =
    let is = text_from_reads c.word.result.now (codes "pair") (omega arith) (search rules) in
    let table = c.args.table.now in
    let put = c.push in
    λ top. Drafted-from_pushed c.args.wanted (properties top table.directory.items) c.args.text.now
    c.pair.result
    table.pairs.items _ put.result
    (rw (sym c.word.ensures.first ∙ is, ← c.word.ensures.rest, ← c.pair.ensures.said) refl) put.ensures
