use Rattle.std.proofs.Common.{◌+◌, ◌∙◌, sym, arith, ◌++◌, ◌∷◌, []}
use Rattle.std.proofs.lemmas.Result.{err_from_is_err_and}
use Rattle.pattern_lines.specs.Lines.{line_of}
use Rattle.aiger_reader.specs.Read.{lines_after}
use Rattle.aiger_reader.proofs.SymbolWalk.{goes_on, at_fault}
use Rattle.aiger_reader.proofs.symbols.read_symbols.Goals as goal

pub returns-then-not-is_put-clause-refused : goal.returns-then-not-is_put-clause-refused
returns-then-not-is_put-clause-refused c =
    let read = c.loop-rest.invariant.1 in
    at_fault c.args.counts (lines_after c.args.lines_before c.args.text.now) read.0 (line_of c.split_line.result.0) (lines_after (c.loop-rest.lines + 1) c.split_line.result.1.now) _
    read.2 c.split_line.ensures.lines (sym c.is_symbol_line.ensures ∙ c.if-not-is_symbol_line.false)
    (c.put_line-is_put.ensures.refused c.if-not-is_put.true c.args.counts read.0 read.1)

pub loop-rest-preserved : goal.loop-rest-preserved
loop-rest-preserved c =
    let read = c.loop-rest.invariant.1 in
    let put = c.put_line-is_put.ensures.put c.if-not-is_put.false c.args.counts read.0 read.1 in (
      omega (arith, c.loop-rest.invariant.0, c.split_line.ensures.shorter),
      (
        read.0 ++ put.symbol ∷ [],
        put.known,
        goes_on c.args.counts (lines_after c.args.lines_before c.args.text.now) read.0 (line_of c.split_line.result.0) (lines_after (c.loop-rest.lines + 1) c.split_line.result.1.now) _ put.symbol
            read.2 c.split_line.ensures.lines (sym c.is_symbol_line.ensures ∙ c.if-not-is_symbol_line.false) put.says put.sound,
      ),
    )

pub returns-in_err-tables-clause-symbols : goal.returns-in_err-tables-clause-symbols
returns-in_err-tables-clause-symbols c = rw ((err_from_is_err_and c.from_residual.result c.from_residual.ensures.1).1) tt

pub returns-in_err-tables-clause-refused : goal.returns-in_err-tables-clause-refused
returns-in_err-tables-clause-refused c =
    let p = err_from_is_err_and c.from_residual.result c.from_residual.ensures.1 in
    rw (p.1, p.2) tt
