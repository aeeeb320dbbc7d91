-- A means, no rule: a sink that is a lent buffer, and the place up to which it is filled.
use Rattle.std.specs.Prelude.{ℕ, ◌+◌, ◌≤◌, ◌≡◌, List, refl, length}
use Rattle.std.proofs.Common.{arith, length-append, ap, sym, ◌∙◌}
use Rattle.std.proofs.Math.Seq.{length-sets}
use Rattle.decimal.proofs.PutLaws.{sets-append}
use Rattle.trace.specs.Putting.{Put}
use Rattle.trace.specs.Sinks.{SinkLaws}
use Rattle.trace.specs.declared.page.Page.{Page}

abbrev pub page_fits : Page → ℕ → Type 0
page_fits p n = p.at + n ≤ length p.buffer.now

-- it is the same buffer, with these bytes put
pub record Written (old : Page) (bytes : List ℕ) (new : Page) : Type 0 where
  pub same : new.buffer.ghost_name ≡ old.buffer.ghost_name
  pub put : Put old.buffer.now new.buffer.now old.at new.at bytes

pub page_laws : SinkLaws page_fits Written
page_laws = record {
  fewer = λ a m n h. omega (arith, h);
  left = λ a b x n t h. omega (arith, t.put.past, h, ap length t.put.stored, length-sets a.buffer.now a.at x);
  nothing = λ a. record { same = refl; put = record { stored = refl; past = omega arith } };
  joined = λ a b c x y t u. record {
    same = u.same ∙ t.same;
    put = record {
      stored = u.put.stored ∙ rw (t.put.stored, t.put.past) (sym (sets-append a.buffer.now a.at x y));
      past = omega (arith, t.put.past, u.put.past, length-append x y);
    };
  };
}
