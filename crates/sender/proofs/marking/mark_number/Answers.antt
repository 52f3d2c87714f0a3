use Rattle.std.proofs.Common.{rules, sym, inl, inr}
use Rattle.sender.proofs.MarkedNumbers.{Laws, marks_no_such, marks_no_more, marks_one}
use Rattle.sender.proofs.marking.mark_number.Goals.{then-entry-via-then-entry, then-entry-via-else-entry+then-entry-repeats}
use Rattle.sender.proofs.marking.mark_number.Goals as goal

pub returns-in_default-clause-marks : goal.returns-in_default-clause-marks
returns-in_default-clause-marks g c =
    let h = g.H.History.meaning c.args.history.now in
    let is = g.met.H.History.is_past c.args.history.now in
    marks_no_such c.args.repeats h c.args.number (c.history_by_place.ensures.find h c.args.number is) (search rules)

pub returns-then-entry-clause-marks : goal.returns-then-entry-clause-marks
returns-then-entry-clause-marks g c =
    let h = g.H.History.meaning c.args.history.now in
    let is = g.met.H.History.is_past c.args.history.now in
    let law = c.history_by_place.ensures in
    let laws : Laws = record { inside = law.inside; ends = law.ends; one = law.one } in
    marks_no_more c.args.repeats h c.args.number laws is c.in-Some.place c.get-entry.result.now (law.find h c.args.number is) (sym c.in-Some.ensures) c.get-entry.ensures
    (elim c.then-entry.branch [ then-entry-via-then-entry w ↦ inl w.if-entry.true | then-entry-via-else-entry+then-entry-repeats w ↦ inr w.if-entry-repeats.true ])

pub returns-clause-marks : goal.returns-clause-marks
returns-clause-marks g c =
    let h = g.H.History.meaning c.args.history.now in
    let is = g.met.H.History.is_past c.args.history.now in
    let law = c.history_by_place.ensures in
    let laws : Laws = record { inside = law.inside; ends = law.ends; one = law.one } in
    marks_one c.args.repeats h c.args.number laws is c.in-Some.place c.get-entry.result.now (law.find h c.args.number is) (sym c.in-Some.ensures) c.get-entry.ensures (g.H.History.meaning c.mark.new.self) c.if-entry.false c.if-entry-repeats.false (law.mark h (g.H.History.meaning c.mark.new.self) c.in-Some.place c.mark.ensures)
