pub mod RuleNumber
