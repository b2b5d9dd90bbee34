-- A number of 10 or more has the digits of a tenth of it, and one more.
use Rattle.std.proofs.Common.{◌∙◌, ◌/◌, ◌%◌, [], ◌∷◌, ◌++◌, append_assoc, ap, length, length-append, arith}
use Rattle.listing.specs.Text.{digit, decimal}
use Rattle.listing.proofs.Decimals.{decimal_more, decimal_length}
use Rattle.listing.proofs.text.Text.+decimal.Goals as goal

pub push-requires-2 : goal.push-requires-2
push-requires-2 t c =
    let tenth = decimal (c.args.n / 10) in
    omega (arith, c.requires, ap length c.decimal.ensures, length-append c.args.self tenth, decimal_length c.args.n c.if-n-lt10.false)

pub returns : goal.returns
returns t c =
    let last = digit (c.args.n % 10) ∷ [] in
    rw (decimal_more c.args.n c.if-n-lt10.false)
    (c.push-2.ensures ∙ ap (λ s. s ++ last) c.decimal.ensures ∙ append_assoc c.args.self (decimal (c.args.n / 10)) last)
