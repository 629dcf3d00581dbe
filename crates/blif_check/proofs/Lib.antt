pub mod OneOrNone
pub mod RulesInOrder
