pub mod EventRules
