use Rattle.std.proofs.Common.{◌∷◌, [], ◌++◌, sym, subst}
use Rattle.pe_core.specs.Left.{StandsFor}
use Rattle.pe_core.specs.Standing.{left}
use Rattle.pe_core.proofs.Places.{calls_left}
use Rattle.pe_core.proofs.Replies.{stands_for_more}
use Rattle.pe_core.proofs.pe.Pe.replied.Goals as goal

pub returns-clause-stands : goal.returns-clause-stands
returns-clause-stands c = λ program replies stands.
    let pe = c.args.self.now in
    subst (StandsFor program (replies ++ c.args.reply.now ∷ [])) (sym c.place_after-self.ensures.left)
    (stands_for_more (left pe) c.args.reply.now (calls_left pe.actions pe.order pe.place pe.ready) program replies stands)
