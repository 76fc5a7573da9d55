use Rattle.std.proofs.Common.{rules, arith, ◌≡◌, ◌≤◌, ◌<◌, ◌+◌, ◌++◌, ◌∷◌, [], ◌∙◌, ap, ap₂, refl, sym, take, drop, length}
use Rattle.std.proofs.Math.Seq.{drop-length, take-length}
use Rattle.std.proofs.lemmas.List.{length-append}
use Rattle.tinyjson_grammar.specs.Tree.{no_members}
use Rattle.tinyjson.specs.View.{view, text}
use Rattle.tinyjson.specs.private.Members.{add}
use Rattle.tinyjson.specs.private.Stack.{gather}
use Rattle.tinyjson.proofs.Reading.Members.{gather_add, taken_front, taken_back}
use Rattle.tinyjson.proofs.parser.stack.Stack.fill_empty.Goals as goal

pub loop-self-init : goal.loop-self-init
loop-self-init c =
    let s = c.args.self.now in
    record {
      members = c.requires.empty ∙ sym (ap (λ js. gather no_members js (drop (length s.values.items) s.values.items))
          (drop-length s.keys.items));
      keys = sym (take-length s.keys.items);
      values = sym (take-length s.values.items);
      keys_least = c.requires.keys;
      values_least = c.requires.values;
      count = c.requires.count;
      places = refl;
      maps = refl;
    }

pub loop-self-preserved : goal.loop-self-preserved
loop-self-preserved c =
    let i = c.loop-self.invariant in
    let s = c.args.self.now in
    let ks = c.loop-self.self.keys.items in
    let vs = c.loop-self.self.values.items in
    let js = c.pop.new.self.items in
    let us = c.pop-in-loop-self.new.self.items in
    let k = c.in-Some-Some.key in
    let v = c.in-Some-Some.value in
    let key : ks ≡ js ++ k ∷ [] = search rules in
    let value : vs ≡ us ++ v ∷ [] = search rules in
    let more : c.args.values < length vs = search rules in
    let fewer_keys : length ks ≡ length js + 1 = ap length key ∙ length-append js (k ∷ []) in
    let fewer_values : length vs ≡ length us + 1 = ap length value ∙ length-append us (v ∷ []) in
    record {
      members =
          c.in_ok-add_member.ensures ∙ ap (add (text k) (view v)) i.members
          ∙ sym (gather_add k v (drop (length ks) s.keys.items) (drop (length vs) s.values.items))
          ∙ sym (ap₂ (gather no_members) (taken_back s.keys.items ks js k i.keys key) (taken_back s.values.items vs us v i.values value));
      keys = taken_front s.keys.items ks js k i.keys key;
      values = taken_front s.values.items vs us v i.values value;
      keys_least = omega (arith, fewer_keys, fewer_values, more, i.count);
      values_least = omega (arith, fewer_values, more);
      count = omega (arith, fewer_keys, fewer_values, i.count);
      places = i.places;
      maps = i.maps;
    }

pub returns-clause-members : goal.returns-clause-members
returns-clause-members c =
    let i = c.loop-self.invariant in
    let s = c.args.self.now in
    let done : length c.loop-self.self.values.items ≤ c.args.values = search rules in
    let n : length c.loop-self.self.values.items ≡ c.args.values = omega (arith, done, i.values_least) in
    let m : length c.loop-self.self.keys.items ≡ c.args.keys = omega (arith, n, i.count) in
    i.members ∙ ap₂ (λ a b. gather no_members (drop a s.keys.items) (drop b s.values.items)) m n
    ∙ ap (λ ms. gather ms (drop c.args.keys s.keys.items) (drop c.args.values s.values.items)) (sym c.requires.empty)

pub returns-clause-values : goal.returns-clause-values
returns-clause-values c =
    let i = c.loop-self.invariant in
    let done : length c.loop-self.self.values.items ≤ c.args.values = search rules in
    let n : length c.loop-self.self.values.items ≡ c.args.values = omega (arith, done, i.values_least) in
    i.values ∙ ap (λ b. take b c.args.self.now.values.items) n

pub returns-clause-keys : goal.returns-clause-keys
returns-clause-keys c =
    let i = c.loop-self.invariant in
    let done : length c.loop-self.self.values.items ≤ c.args.values = search rules in
    let m : length c.loop-self.self.keys.items ≡ c.args.keys = omega (arith, done, i.values_least, i.count) in
    i.keys ∙ ap (λ a. take a c.args.self.now.keys.items) m
