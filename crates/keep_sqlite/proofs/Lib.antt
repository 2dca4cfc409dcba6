mod CallLaws
mod TransactionLaws
