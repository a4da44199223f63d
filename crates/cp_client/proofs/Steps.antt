-- Steps that follow one another.
use Rattle.std.proofs.Common.{◌≡◌, List, [], ◌++◌, refl, sym, ◌∙◌, ap, subst, append_assoc}
use Rattle.std.proofs.lemmas.List.{append-nil}
use Rattle.cp_client_rules.specs.Clients.{Client, Did, and_then, nothing}
use Rattle.cp_client.specs.declared.output.ClientOut.{ClientOut}
use Rattle.cp_client.specs.Steps.{Gives}

pub same : {A : Type 0} (xs : List A) → xs ≡ xs ++ []
same xs = sym (append-nil xs)

joined : {A : Type 0} (a b c d e : List A) → b ≡ a ++ d → c ≡ b ++ e → c ≡ a ++ (d ++ e)
joined a b c d e f g = g ∙ ap (λ x. x ++ e) f ∙ append_assoc a d e

pub nothing_gives : (c : Client) (x : ClientOut) → Gives (nothing c) c x x
nothing_gives c x = record { client_is = refl; asked = same x.asked; opened = same x.opened; returns = same x.returns }

-- a step, and another from the client after it
pub then_gives : (d : Did) (f : Client → Did) (c e : Client) (x y z : ClientOut) → Gives d c x y → Gives (f c) e y z → Gives (and_then d f) e x z
then_gives d f c e x y z one two =
    let next : Gives (f d.client) e y z = subst (λ q. Gives (f q) e y z) one.client_is two in record {
      client_is = next.client_is;
      asked = joined x.asked y.asked z.asked d.asked (f d.client).asked one.asked next.asked;
      opened = joined x.opened y.opened z.opened d.opened (f d.client).opened one.opened next.opened;
      returns = joined x.returns y.returns z.returns d.returns (f d.client).returns one.returns next.returns;
    }
