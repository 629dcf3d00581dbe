use Rattle.std.proofs.Common.{◌∙◌, sym, ap, subst}
use Rattle.std.proofs.lemmas.Result.{err_from_is_err_and}
use Rattle.aiger_text.specs.Names.{name_faults}
use Rattle.aiger_reader.specs.Read.{IsFirstOf}
use Rattle.aiger_reader.proofs.FirstOf.{in_names, no_faults, no_symbol_fault, symbols_are, symbols_later, none_is_undefined, one_is_undefined, circuit_is}
use Rattle.aiger_reader.proofs.reading.aig_in.Goals as goal

pub returns-in-Some-clause-refused : goal.returns-in-Some-clause-refused
returns-in-Some-clause-refused c = λ text r.
    one_is_undefined c.args.counts text c.args.sections.now r.has_sections c.args.tables.now r.has_symbols c.deref.result.now c.in-Some.line c.deref.ensures.value c.in-Some.ensures

pub returns-in_err-names-clause-refused : goal.returns-in_err-names-clause-refused
returns-in_err-names-clause-refused c =
    let counts = c.args.counts in
    let sections = c.args.sections.now in
    let tables = c.args.tables.now in
    let p = err_from_is_err_and c.from_residual.result c.from_residual.ensures.1 in
    rw (p.1, p.2)
    (λ text r.
    let s = r.has_sections in
    let y = r.has_symbols in
    let none = none_is_undefined counts text sections s tables y c.deref.result.now c.first_undefined.result c.deref.ensures.value c.first_undefined.ensures c.in_default.is in
    in_names counts text c.in_err-names.field-0.0 s.no_fault (no_symbol_fault counts text sections s tables y) none
    (subst (λ ss. IsFirstOf (name_faults counts ss) c.in_err-names.field-0.0) (sym (symbols_are counts text sections s tables y)) (c.in_err-names.ensures.refused (symbols_later counts text sections s tables y) y.known)))

pub returns-clause-aig : goal.returns-clause-aig
returns-clause-aig c = λ text r.
    let s = r.has_sections in
    let y = r.has_symbols in
    let later = symbols_later c.args.counts text c.args.sections.now s c.args.tables.now y in
    c.in_ok-aig_of.ensures
    ∙ circuit_is c.args.counts text c.args.sections.now s c.args.tables.now y c.deref-2.result.now c.in_ok-names.names.items c.deref-2.ensures.value (c.in_ok-names.ensures.names later y.known)

pub returns-clause-no_fault : goal.returns-clause-no_fault
returns-clause-no_fault c = λ text r.
    let counts = c.args.counts in
    let sections = c.args.sections.now in
    let tables = c.args.tables.now in
    let s = r.has_sections in
    let y = r.has_symbols in
    let later = symbols_later counts text sections s tables y in
    let none = none_is_undefined counts text sections s tables y c.deref.result.now c.first_undefined.result c.deref.ensures.value c.first_undefined.ensures c.in_default.is in
    let symbols = symbols_are counts text sections s tables y in
    no_faults counts text s.no_fault (no_symbol_fault counts text sections s tables y) none
    (ap (name_faults counts) symbols ∙ c.in_ok-names.ensures.apart later y.known)

pub returns-in_err-names-clause-aig : goal.returns-in_err-names-clause-aig
returns-in_err-names-clause-aig c = rw ((err_from_is_err_and c.from_residual.result c.from_residual.ensures.1).1) tt

pub returns-in_err-names-clause-no_fault : goal.returns-in_err-names-clause-no_fault
returns-in_err-names-clause-no_fault c = rw ((err_from_is_err_and c.from_residual.result c.from_residual.ensures.1).1) tt

pub returns-in_err-aig_of-clause-aig : goal.returns-in_err-aig_of-clause-aig
returns-in_err-aig_of-clause-aig c = rw ((err_from_is_err_and c.from_residual-in_err-aig_of.result c.from_residual-in_err-aig_of.ensures.1).1) tt

pub returns-in_err-aig_of-clause-no_fault : goal.returns-in_err-aig_of-clause-no_fault
returns-in_err-aig_of-clause-no_fault c = rw ((err_from_is_err_and c.from_residual-in_err-aig_of.result c.from_residual-in_err-aig_of.ensures.1).1) tt

pub returns-in_err-aig_of-clause-refused : goal.returns-in_err-aig_of-clause-refused
returns-in_err-aig_of-clause-refused c =
    let p = err_from_is_err_and c.from_residual-in_err-aig_of.result c.from_residual-in_err-aig_of.ensures.1 in
    rw (p.1, p.2) (λ text k. tt)
